-- The sums of a round: those so far are of the first i cells, and a turn adds one. Assumes nothing.
use Rattle.std.proofs.Common.{◌≤◌}
use Rattle.lists.specs.Cells.{each}
use Rattle.flex.specs.Steps.{Summed}
use Rattle.flex_rounds.specs.Cells.{cell_at}
use Rattle.flex_rounds.proofs.rounds.sum_up.Given as goal

abbrev pub invariant-loop-i : goal.invariant-loop-i
invariant-loop-i l = record {
  few : l.s.left ≤ l.i;
  summed : Summed l.growing (each l.i (cell_at l.items l.frozen l.targets)) l.s;
}
