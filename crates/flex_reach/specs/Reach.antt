-- Document 01, "Domain and refusal numbers", of a line that is accepted, and of the targets that it hands to a later
-- step: what the theorem of proofs/Reach.antt says of them. Definitions only. Assumes nothing.
use Rattle.std.specs.Prelude.{◌≡◌, ◌⊎◌, false, List, [], ◌∷◌, ◌≤◌, T, length, Float}
use Rattle.std.specs.Float.{inf, binary32}
use Rattle.std.specs.Float.Ieee.{le, fits}
use Rattle.std.specs.Float.Ieee.Scale.{finite}
use Rattle.grid.specs.Grid.{on_grid, within}
use Rattle.flex.specs.declared.Item.{Item}
use Rattle.grid.specs.Floats.{nought}
use Rattle.flex.specs.Flex.{outer_sum}

-- "Gaps, padding plus border .., minima, maxima, flex bases, .. and inner sizes are at least 0"; lengths "have
-- magnitude at most 262,144 px"
pub record IsSize (x : Float) : Type 0 where
  pub grid : T (on_grid x)
  pub small : T (within 262144 x)
  pub above : T (le nought x)

-- "margins 131,072"
pub record IsMargin (x : Float) : Type 0 where
  pub grid : T (on_grid x)
  pub small : T (within 131072 x)

-- "Grow and shrink lie in 0 to 1,024, any float"
pub record IsFactor (x : Float) : Type 0 where
  pub single : T (fits binary32 x)
  pub small : T (within 1024 x)
  pub above : T (le nought x)

pub record IsItem (it : Item) : Type 0 where
  pub base : IsSize it.base
  pub minimum : IsSize it.minimum
  pub maximum : (it.maximum ≡ inf false) ⊎ IsSize it.maximum
  pub edges : IsSize it.edges
  pub grow : IsFactor it.grow
  pub shrink : IsFactor it.shrink
  pub start : IsMargin it.start
  pub end : IsMargin it.end

abbrev pub Each : {A : Type 0} → (A → Type 0) → List A → Type 0
Each P [] = Unit {0}
Each P (a ∷ l) = P a × Each P l

-- an accepted line: at most 1,024 items, and the "sum over items of (|outer main size| + gap), hypothetical where the
-- call flexes, is at most 16,777,216 sixty-fourths"
pub record IsLine (inner gap : Float) (items : List Item) : Type 0 where
  pub inner_is : IsSize inner
  pub gap_is : IsSize gap
  pub items_are : Each IsItem items
  pub few : length items ≤ 1024
  pub sum : outer_sum gap items ≤ 16777216

-- "Worked-out targets and line sizes handed to a later step need only be finite (3) and at most 16,777,216 px in
-- magnitude (5)"
pub record HandedOn (x : Float) : Type 0 where
  pub not_3 : T (finite x)
  pub not_5 : T (within 16777216 x)
