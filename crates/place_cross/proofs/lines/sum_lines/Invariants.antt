-- The sum so far.
use Rattle.std.proofs.Common.{◌≡◌}
use Rattle.place_align.specs.Sums.{total_up_to}
use Rattle.place_cross.specs.Lines.{grown_at}
use Rattle.place_cross.proofs.lines.sum_lines.Given as goal

abbrev pub invariant-loop-x : goal.invariant-loop-x
invariant-loop-x l = l.sum ≡ total_up_to (grown_at l.more l.lines) l.x-index
