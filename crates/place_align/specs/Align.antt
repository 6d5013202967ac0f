-- Document 01, "Main axis": the fallback of the alignment keywords, and the offsets that they give, on either axis.
-- Every operation is one of f32, rounded once. Assumes nothing.
use Rattle.std.specs.Prelude.{Bool, cond, ◌||◌, ℕ, ◌+◌, ◌-◌, leb, Float}
use Rattle.std.specs.Float.Ieee.{le, lt}
use Rattle.grid.specs.Floats.{◌⊕◌, ◌⊘◌, nought, two, counted}
use Rattle.keywords.specs.declared.Position.{Position}
use Rattle.keywords.specs.declared.Position.TheVariants.{Start, End, FlexStart, FlexEnd, Center}
use Rattle.keywords.specs.declared.Distribution.{Distribution}
use Rattle.keywords.specs.declared.Distribution.TheVariants.{Stretch, SpaceBetween, SpaceAround, SpaceEvenly}
use Rattle.keywords.specs.declared.ContentAlignment.{ContentAlignment}
use Rattle.keywords.specs.declared.ContentAlignment.TheVariants.{Unsafe, Safe, Spread}
use Rattle.keywords.specs.declared.SelfAlignment.{SelfAlignment}
use Rattle.keywords.specs.declared.SelfAlignment.TheVariants as self
use Rattle.place_align.specs.declared.Resolved.{Resolved}
use Rattle.place_align.specs.declared.Resolved.TheVariants.{At}
use Rattle.place_align.specs.declared.Resolved.TheVariants as resolved

-- ---- the fallback

-- "space-between and stretch to safe flex-start, space-around and space-evenly to safe center"
abbrev pub fallback_of : Distribution → ContentAlignment
fallback_of Stretch = Safe FlexStart
fallback_of SpaceBetween = Safe FlexStart
fallback_of SpaceAround = Safe Center
fallback_of SpaceEvenly = Safe Center

-- "Fallback when free ≤ 0 or at most one item"
unfoldable pub fallback : Float → ℕ → ContentAlignment → ContentAlignment
fallback free n (Unsafe p) = Unsafe p
fallback free n (Safe p) = Safe p
fallback free n (Spread d) = cond (le free nought || leb n 1) (fallback_of d) (Spread d)

-- "safe with free ≤ 0 means start"
unfoldable pub made_safe : Float → ContentAlignment → Resolved
made_safe free (Unsafe p) = At p
made_safe free (Safe p) = cond (le free nought) (At Start) (At p)
made_safe free (Spread d) = resolved.Spread d

-- ---- the offsets

-- "start, .. 0, end free, center free/2; flex-start 0, or free if reversed; flex-end the other"
unfoldable pub positioned : Float → Bool → Position → Float
positioned free reversed Start = nought
positioned free reversed End = free
positioned free reversed FlexStart = cond reversed free nought
positioned free reversed FlexEnd = cond reversed nought free
positioned free reversed Center = free ⊘ two

-- "First: .. stretch and space-between 0, .. space-around free/n/2; space-evenly free/(n+1)"
unfoldable pub first_offset : Float → ℕ → Bool → Resolved → Float
first_offset free n reversed (At p) = positioned free reversed p
first_offset free n reversed (resolved.Spread Stretch) = nought
first_offset free n reversed (resolved.Spread SpaceBetween) = nought
first_offset free n reversed (resolved.Spread SpaceAround) = free ⊘ counted n ⊘ two
first_offset free n reversed (resolved.Spread SpaceEvenly) = free ⊘ counted (n + 1)

-- the later ones: "gap, plus free/(n−1), free/n, free/(n+1) for between, around, evenly where free is positive"; where
-- it is not, the fallback has left no distribution
unfoldable pub later_offset : Float → ℕ → Float → Resolved → Float
later_offset free n gap (At p) = gap
later_offset free n gap (resolved.Spread Stretch) = gap
later_offset free n gap (resolved.Spread SpaceBetween) = gap ⊕ free ⊘ counted (n - 1)
later_offset free n gap (resolved.Spread SpaceAround) = gap ⊕ free ⊘ counted n
later_offset free n gap (resolved.Spread SpaceEvenly) = gap ⊕ free ⊘ counted (n + 1)

-- "Else the item is placed at 0, free or free/2 by its alignment, stretch as flex-start; reversed wrapping exchanges
-- flex-start and flex-end; safe with negative free is start."
unfoldable pub self_offset : Float → Bool → SelfAlignment → Float
self_offset free reversed (self.Unsafe p) = positioned free reversed p
self_offset free reversed (self.Safe p) = positioned free reversed (cond (lt free nought) Start p)
self_offset free reversed self.Stretch = positioned free reversed FlexStart
