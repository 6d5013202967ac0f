-- The cells are written from the front.
use Rattle.std.proofs.Common.{◌≡◌}
use Rattle.lists.specs.Cells.{overwritten}
use Rattle.place_cross.specs.Lines.{grown_at}
use Rattle.place_cross.proofs.lines.stretch_lines.Given as goal

abbrev pub invariant-loop-i : goal.invariant-loop-i
invariant-loop-i l = l.sizes ≡ overwritten l.i (grown_at l.more l.lines) l.initial.sizes
