-- `sum` is that of the items before item i (PixelsLaws.antt).
use Rattle.balance_tables.proofs.PixelsLaws.{AddSoFar}
use Rattle.balance_tables.proofs.pixels.add_up.Given as goal

abbrev pub invariant-loop-i : goal.invariant-loop-i
invariant-loop-i l = AddSoFar l.sizes l.gap.0 l.sums l.sum l.i
