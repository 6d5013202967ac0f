-- The cells are written from the front.
use Rattle.std.proofs.Common.{◌≡◌}
use Rattle.lists.specs.Cells.{overwritten}
use Rattle.place_align.specs.Axis.{margin_at}
use Rattle.place_align.proofs.axis.use_margins.Given as goal

abbrev pub invariant-loop-i : goal.invariant-loop-i
invariant-loop-i l = l.used ≡ overwritten l.i (margin_at l.share l.fn.auto l.margins) l.initial.used
