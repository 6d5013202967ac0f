-- The ends before `start` are fit ends, and the next is no sooner.
use Rattle.balance_tables.proofs.TablesLaws.{FitSoFar}
use Rattle.balance_tables.proofs.fit_ends.Given as goal

abbrev pub invariant-loop-start : goal.invariant-loop-start
invariant-loop-start l = FitSoFar l.sums.up_to.now l.sums.gap.0 l.limit l.fit l.start l.end
