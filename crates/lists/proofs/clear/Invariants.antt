-- The cells from `from` up to i are `zero`, the others as they were (Filling.antt).
use Rattle.lists.proofs.Filling.{Filling}
use Rattle.lists.proofs.clear.Given as goal

abbrev pub invariant-loop-i : goal.invariant-loop-i
invariant-loop-i g l = Filling l.zero l.from l.to l.initial.cells l.cells l.i
