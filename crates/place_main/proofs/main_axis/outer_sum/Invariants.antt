-- The sum so far.
use Rattle.std.proofs.Common.{◌≡◌}
use Rattle.place_align.specs.Sums.{total_up_to}
use Rattle.place_main.specs.MainAxis.{outer_at}
use Rattle.place_main.specs.Lists.{lists_of}
use Rattle.place_main.proofs.main_axis.outer_sum.Given as goal

abbrev pub invariant-loop-i : goal.invariant-loop-i
invariant-loop-i l = l.sum ≡ total_up_to (outer_at (lists_of l.items)) l.i
