-- No line after the first i starts past `start` (TablesLaws.antt).
use Rattle.balance_tables.proofs.TablesLaws.{ReachSoFar}
use Rattle.balance_tables.proofs.forward.Given as goal

abbrev pub invariant-loop-i : goal.invariant-loop-i
invariant-loop-i l = ReachSoFar l.fit l.reach l.start l.i
