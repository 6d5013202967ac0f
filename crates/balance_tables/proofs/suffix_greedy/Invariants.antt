-- The counts from `start` on are right, since a line ends after it starts.
use Rattle.balance_tables.specs.Tables.{CountsFrom}
use Rattle.balance_tables.proofs.suffix_greedy.Given as goal

abbrev pub invariant-loop-start : goal.invariant-loop-start
invariant-loop-start l = CountsFrom l.fit l.greedy l.start
