-- The counts written, and then those of the lines to come, are greedy breaking's (Counts.antt).
use Rattle.std.proofs.Common.{◌-◌, length}
use Rattle.grid.specs.Grid.{sixty_fourths}
use Rattle.break_greedy.specs.Breaking.{limit_of}
use Rattle.break_greedy.specs.Calls.{units}
use Rattle.break_greedy.proofs.Counts.{Inv}
use Rattle.break_greedy.proofs.greedy_counts.Given as goal

abbrev pub invariant-loop-start : goal.invariant-loop-start
invariant-loop-start l =
    Inv (limit_of l.limit) (sixty_fourths l.gap) (units l.sizes) l.initial.counts l.counts l.start l.n

abbrev pub decreases-loop-start : goal.decreases-loop-start
decreases-loop-start l = length l.sizes - l.start
