-- What both axes share: margins that may be auto, and offsets in the order of the walk. Assumes nothing.
use Rattle.std.specs.Prelude.{Bool, cond, List, ℕ, zero, suc, ◌+◌, ◌-◌, eqb, get_or, Float}
use Rattle.std.specs.Float.{nan}
use Rattle.grid.specs.Grid.{cleaned}
use Rattle.keywords.specs.declared.ContentAlignment.{ContentAlignment}
use Rattle.place_align.specs.Align.{fallback, made_safe, first_offset, later_offset}

-- a margin, or the share of an auto one, whose code is not 0; "-0.0 reads as 0"
unfoldable pub margin : Float → ℕ → Float → Float
margin share auto x = cond (eqb auto 0) (cleaned x) share

abbrev pub margin_at : Float → List ℕ → List Float → ℕ → Float
margin_at share auto xs i = margin share (get_or auto i 0) (get_or xs i nan)

-- how many of the first n margins of a side are auto
unfoldable pub autos : List ℕ → ℕ → ℕ
autos auto zero = 0
autos auto (suc n) = cond (eqb (get_or auto n 0) 0) (autos auto n) (autos auto n + 1)

-- "walking from the physical start, from the last item if reversed": where item i of n comes
abbrev pub walked : Bool → ℕ → ℕ → ℕ
walked reversed n i = cond reversed (n - 1 - i) i

-- "An offset is the step before an item"
unfoldable pub stepped : Float → Float → Bool → ℕ → ℕ → Float
stepped first later reversed n i = cond (eqb (walked reversed n i) 0) first later

-- the offsets of n items, or of n lines
unfoldable pub offsets : Float → ℕ → Float → ContentAlignment → Bool → ℕ → Float
offsets free n gap alignment reversed =
    let used = made_safe free (fallback free n alignment) in
    stepped (cleaned (first_offset free n reversed used)) (cleaned (later_offset free n gap used)) reversed n
