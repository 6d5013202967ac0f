-- Document 01, "Main axis": the alignment keywords by their codes. Assumes nothing.
use Rattle.std.specs.Prelude.{cond, List, [], ◌∷◌, ℕ, ◌-◌, ltb, get_or}
use Rattle.keywords.specs.declared.Position.{Position}
use Rattle.keywords.specs.declared.Position.TheVariants.{Start, End, FlexStart, FlexEnd, Center}
use Rattle.keywords.specs.declared.Distribution.{Distribution}
use Rattle.keywords.specs.declared.Distribution.TheVariants.{Stretch, SpaceBetween, SpaceAround, SpaceEvenly}
use Rattle.keywords.specs.declared.ContentAlignment.{ContentAlignment}
use Rattle.keywords.specs.declared.ContentAlignment.TheVariants.{Unsafe, Safe, Spread}
use Rattle.keywords.specs.declared.SelfAlignment.{SelfAlignment}
use Rattle.keywords.specs.declared.SelfAlignment.TheVariants as self

-- codes 0 to 3, and 4 for center
abbrev pub positions : List Position
positions = Start ∷ End ∷ FlexStart ∷ FlexEnd ∷ []

abbrev pub position_of : ℕ → Position
position_of c = get_or positions c Center

-- codes 0 to 2, and 3 for space-evenly
abbrev pub distributions : List Distribution
distributions = Stretch ∷ SpaceBetween ∷ SpaceAround ∷ []

abbrev pub distribution_of : ℕ → Distribution
distribution_of c = get_or distributions c SpaceEvenly

-- `justify-content` and `align-content`: 0 to 4 a position, 5 to 9 a safe one, 10 to 13 a distribution
unfoldable pub content_of : ℕ → ContentAlignment
content_of c = cond (ltb c 5) (Unsafe (position_of c)) (cond (ltb c 10) (Safe (position_of (c - 5)))
    (Spread (distribution_of (c - 10))))

-- `align-self`: 0 to 4 a position, 5 to 9 a safe one, 10 stretch
unfoldable pub self_of : ℕ → SelfAlignment
self_of c =
    cond (ltb c 5) (self.Unsafe (position_of c)) (cond (ltb c 10) (self.Safe (position_of (c - 5))) self.Stretch)
