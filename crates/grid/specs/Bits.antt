-- Numbers by their binary digits. Only contracts of parts cite it. Assumes nothing.
use Rattle.std.specs.Prelude.{◌≡◌, ℕ, ◌+◌, ◌*◌, ◌^◌}

-- r is the lowest digit 1 of q by itself: r is 2 ^ place, and q is r times an odd number, above * 2 + 1
pub record Lowest (q r : ℕ) : Type 0 where
  pub place : ℕ
  pub above : ℕ
  pub power : r ≡ 2 ^ place
  pub number : q ≡ (above * 2 + 1) * 2 ^ place
