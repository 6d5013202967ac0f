-- The choice among the ends that no zero item follows. Assumes nothing.
use mathlib.Core.List.{List}
use Prim.Native.Nat.{ℕ, ◌+◌}
use lib.ListN.{length}
use lib.Ieee.{Float}
use Rattle.balance_rule.specs.Dp.{Argmin, Nonzero}
use Rattle.balance_rule.specs.Sizes.{square_at, ZeroAt}
use Rattle.balance_sums.specs.Sums.{ends}
use Rattle.balance_choice.specs.Cells.{Ghost, value}

abbrev pub NearChoice : Ghost → List ℕ → List Float → ℕ → ℕ → Type 0
NearChoice q fit prev s e =
    Argmin (Nonzero (length q.xs) (ends fit) q.G (ZeroAt q.xs) q.k s) (λ t. square_at q.gap q.xs s t + value prev t) (e + 1)
