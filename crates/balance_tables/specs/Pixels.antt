-- A size in pixels, an `f32` that is a whole number of sixty-fourths, as a whole number of sixty-fourths in an `f64`,
-- negative ones read as 0. Only contracts of parts cite it. Assumes nothing.
use Rattle.std.specs.Prelude.{◌≡◌, ◌⊎◌, List, true, false, ℕ, ◌^◌, ◌≤◌, ◌<◌, length, get_or, Float}
use Rattle.std.specs.Float.{nan, binary64}
use Rattle.std.specs.Float.Ieee.{mul, of_bits}
use Rattle.std.specs.Float.Ieee.Exact.{HasValue}
use Rattle.balance_sums.specs.Whole.{Holds}
use Rattle.balance_rule.specs.Sizes.{pre}
use Rattle.balance_tables.specs.Tables.{SumsAre}

-- v times 64, as the machine has it
abbrev pub scaled_f : Float → Float
scaled_f v = mul binary64 v (of_bits binary64 4634204016564240384)

-- v is a number of pixels, a / 64 or -(a / 64), and x is its size in sixty-fourths: 0 where it is negative
pub record SizeIs (v : Float) (x : ℕ) : Type 0 where
  pub is : HasValue v false x 64 ⊎ ((a : ℕ) × HasValue v true a 64 × (x ≡ 0))

pub record SizeOut (v r : Float) : Type 0 where
  pub holds : (x : ℕ) → x ≤ 2 ^ 53 → SizeIs v x → Holds r x

-- ---- adding the sizes up
pub record SizesAre (g : ℕ) (xs : List ℕ) (sizes : List Float) (gap : Float) : Type 0 where
  pub count : length sizes ≡ length xs
  pub gap_is : Holds gap g
  pub sizes_are : (i : ℕ) → i < length xs → SizeIs (get_or sizes i nan) (get_or xs i 1)
  pub small : pre g xs (length xs) ≤ 2 ^ 24

pub record AddOut (sizes : List Float) (gap : Float) (sums : List Float) : Type 0 where
  pub sums_are : (g : ℕ) (xs : List ℕ) → SizesAre g xs sizes gap → SumsAre g xs sums gap
