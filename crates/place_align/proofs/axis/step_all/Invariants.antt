-- The cells are written from the front, and the walk's first is told by its place.
use Rattle.std.proofs.Common.{◌≡◌}
use Rattle.lists.specs.Cells.{overwritten}
use Rattle.place_align.specs.Axis.{stepped}
use Rattle.place_align.proofs.axis.step_all.Given as goal

abbrev pub invariant-loop-i : goal.invariant-loop-i
invariant-loop-i l = l.cells ≡ overwritten l.i (stepped l.first l.later l.reversed l.n) l.initial.cells
