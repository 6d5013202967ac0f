-- No target is -0.0: the first ones are cleaned, the others as they were. Assumes nothing.
use Rattle.std.proofs.Common.{◌≡◌, map, take, drop, ◌++◌}
use Rattle.grid.specs.Grid.{cleaned}
use Rattle.flex_rounds.proofs.line.tidy.Given as goal

abbrev pub invariant-loop-x : goal.invariant-loop-x
invariant-loop-x l = l.targets ≡ map cleaned (take l.x-index l.initial.targets) ++ drop l.x-index l.initial.targets
