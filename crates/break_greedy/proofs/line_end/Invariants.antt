-- The answer still to come stays the same, turn by turn (Line.antt).
use Rattle.break_greedy.proofs.Line.{Inv}
use Rattle.break_greedy.proofs.line_end.Given as goal

abbrev pub invariant-loop-i : goal.invariant-loop-i
invariant-loop-i l = Inv l.sizes l.gap l.limit l.start l.size l.i
