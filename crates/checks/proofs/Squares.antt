-- The square of a number of items that check 1 lets pass. Assumes nothing.
use Prim.Native.Nat.{ℕ, ◌*◌, ◌≤◌}
use native.Mathlib.Nat.{mul-le-mul}

pub square_small : (n : ℕ) → n ≤ 1024 → n * n ≤ 1048576
square_small n h = mul-le-mul {n₁ = n} {m₁ = n} {n₂ = 1024} {m₂ = 1024} h h
