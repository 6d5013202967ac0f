-- "Every sum runs from item 0 upward": with each sum rounded, 2^24, 1 and 1 make 2^24; from the end they would make 2^24 + 2. Assumes nothing.
use mathlib.Core.Path.{◌≡◌, refl}
use mathlib.Core.List.{[], ◌∷◌}
use lib.Ieee.{Float, binary32, add, of_bits}
use Rattle.grid.specs.Floats.{unity}
use Rattle.flex.specs.Flex.{sum_from, total}

-- 2^24, by its bits
abbrev large : Float
large = of_bits binary32 1266679808

pub in_order : total (λ (x : Float). x) (large ∷ unity ∷ unity ∷ []) ≡ large
unfolding sum_from add of_bits
in_order = refl
