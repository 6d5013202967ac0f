-- "Every sum runs from item 0 upward": with each sum rounded, 2^24, 1 and 1 make 2^24; from the end they would make 2^24 + 2. Assumes nothing.
use mathlib.Core.Path.{◌≡◌, refl}
use Prim.Native.Nat.{ℕ, zero, suc}
use lib.Ieee.{Float, binary32, add, of_bits}
use Rattle.grid.specs.Floats.{unity}
use Rattle.place_align.specs.Sums.{total_up_to}

-- 2^24, by its bits, and then ones
abbrev large_first : ℕ → Float
large_first zero = of_bits binary32 1266679808
large_first (suc i) = unity

pub in_order : total_up_to large_first 3 ≡ large_first 0
unfolding total_up_to add of_bits
in_order = refl
