-- Sums over the items 0, 1, .. below n. Assumes nothing.
use Rattle.std.specs.Prelude.{ℕ, zero, suc, Float}
use Rattle.grid.specs.Floats.{◌⊕◌, nought}

-- "Every sum runs from item 0 upward", on top of 0.0
unfoldable pub total_up_to : (ℕ → Float) → ℕ → Float
total_up_to f zero = nought
total_up_to f (suc n) = total_up_to f n ⊕ f n
