-- The theorem of sums along an axis that docs/PROMISES.md names. No contract cites it; proofs/PlaceAlign.antt fills it.
-- Assumes nothing.
use Rattle.std.specs.Prelude.{◌≡◌, ℕ, zero, suc, Float}
use Rattle.std.specs.Float.{binary32}
use Rattle.std.specs.Float.Ieee.{of_bits}
use Rattle.grid.specs.Floats.{unity}
use Rattle.place_align.specs.Sums.{total_up_to}

-- 2^24, by its bits, and then ones
abbrev pub large_first : ℕ → Float
large_first zero = of_bits binary32 1266679808
large_first (suc i) = unity

pub record Promised : Type 0 where
  -- "Every sum runs from item 0 upward": with each sum rounded, 2^24, 1 and 1 make 2^24; from the end they would make
  -- 2^24 + 2
  pub in_order : total_up_to large_first 3 ≡ large_first 0
