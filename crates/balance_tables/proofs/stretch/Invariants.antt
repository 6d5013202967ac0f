-- The line fits as far as it was stretched.
use Rattle.balance_tables.specs.Tables.{Stretched}
use Rattle.balance_tables.proofs.stretch.Given as goal

abbrev pub invariant-loop-end : goal.invariant-loop-end
invariant-loop-end l = Stretched l.sums.up_to.now l.sums.gap.0 l.limit l.start l.from l.end
