-- The cells of one line, on plain values. Assumes nothing.
use mathlib.Core.Path.{◌≡◌, refl}
use mathlib.Core.List.{List, [], ◌∷◌}
use Prim.Native.Nat.{ℕ, zero, suc, ◌≤◌, ◌<◌}
use native.Mathlib.Omega.{arith}
use lib.ListN.{length, set}
use Rattle.lists.specs.Cells.{filled}
use Rattle.break_greedy.specs.Steps.{Listed}
use Rattle.pass_break.specs.Wrapping.{one_line}

pub no_line : (n : ℕ) (before : List ℕ) → n ≡ 0 → Listed n (one_line n) before 0 before
no_line zero before e = record { number = refl; cells = refl }
no_line (suc n) before e = absurd (omega arith)

pub one_line_lem : (n : ℕ) (before : List ℕ) → 0 < n → n ≤ length before → Listed n (one_line n) before 1 (filled 0 1 n (set before 0 n))
one_line_lem zero before p h = absurd (omega arith)
one_line_lem (suc n) [] p h = absurd (omega arith)
one_line_lem (suc n) (x ∷ before) p h = record { number = refl; cells = refl }
