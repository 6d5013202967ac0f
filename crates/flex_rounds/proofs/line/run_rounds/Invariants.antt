-- The rounds: after k turns the cells are those of k rounds, and each turn lowers the number of unfrozen items.
-- Assumes nothing.
use Rattle.flex.specs.Flex.{unfrozen}
use Rattle.flex.specs.Steps.{Summed}
use Rattle.flex_rounds.specs.Cells.{cells_of}
use Rattle.flex_rounds.proofs.Loop.{Running}
use Rattle.flex_rounds.proofs.line.run_rounds.Given as goal

abbrev pub invariant-loop-s : goal.invariant-loop-s
invariant-loop-s l =
    Running l.items l.ln l.initial.frozen l.initial.targets l.frozen l.targets l.rounds
    × Summed l.ln.growing (cells_of l.items l.frozen l.targets) l.s

abbrev pub decreases-loop-s : goal.decreases-loop-s
decreases-loop-s l = unfrozen (cells_of l.items l.frozen l.targets)
