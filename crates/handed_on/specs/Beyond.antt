-- Numbers of the theorems `stretched` and `not_taken`. No contract cites it. Assumes nothing.
use Rattle.std.specs.Prelude.{ℕ, pos, neg_ℤ, Float}
use Rattle.std.specs.Float.{binary32}
use Rattle.std.specs.Float.Ieee.{of_int}
use Rattle.place_checks.specs.declared.numbers.CrossNumbers.{CrossNumbers}

unfoldable pub px : ℕ → Float
px n = of_int binary32 (pos n)

unfoldable pub minus : ℕ → Float
minus n = of_int binary32 (neg_ℤ (pos n))

-- a container of 262,144 px that wraps
unfoldable pub container : CrossNumbers
container = record {
  inner = px 262144;
  has_inner = 1;
  minimum = px 0;
  has_minimum = 0;
  maximum = px 0;
  has_maximum = 0;
  gap = px 0;
  wrap = 1;
}
