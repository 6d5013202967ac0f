-- Which ends a range of starts needs among those that no zero item follows. A line's last item is e, so that the next
-- line starts at e + 1. Only contracts of parts cite it. Assumes nothing.
use Rattle.std.specs.Prelude.{ℕ, ◌+◌, ◌≤◌, ◌<◌}
use Rattle.balance_rule.specs.Dp.{Argmin, Nonzero}

-- the ends from a up to b hold the one that the start s chooses among the nonzero ones, if it has one
pub record Covers (n : ℕ) (F G : ℕ → ℕ) (Z : ℕ → Type 0) (w : ℕ → ℕ → ℕ) (v : ℕ → ℕ) (k a b s : ℕ) : Type 0 where
  pub above : (m : ℕ) → Argmin (Nonzero n F G Z k s) (λ t. w s t + v t) m → a < m
  pub below : (m : ℕ) → Argmin (Nonzero n F G Z k s) (λ t. w s t + v t) m → m ≤ b
