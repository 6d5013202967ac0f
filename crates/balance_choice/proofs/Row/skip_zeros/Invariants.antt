-- A zero item follows every end that is passed.
use Rattle.std.proofs.Common.{◌≡◌, true, ℕ, ◌≤◌, ◌<◌}
use Rattle.balance_choice.specs.Cells.{zero_f}
use Rattle.balance_choice.proofs.Row.skip_zeros.Given as goal

abbrev pub invariant-loop-end : goal.invariant-loop-end
invariant-loop-end l = (e : ℕ) → l.from ≤ e → e < l.end → zero_f l.self.sums.up_to.now l.self.sums.gap.0 e ≡ true
