-- The cells after a round: those before i are settled, those from i on as they were. Assumes nothing.
use Rattle.std.proofs.Common.{length}
use Rattle.flex.specs.Steps.{settled}
use Rattle.flex_table.specs.Table.{item_in}
use Rattle.flex_table.proofs.Each.{Turned}
use Rattle.flex_rounds.specs.Cells.{cell_at}
use Rattle.flex_rounds.proofs.rounds.settle_all.Given as goal

abbrev pub invariant-loop-i : goal.invariant-loop-i
invariant-loop-i l =
    Turned (length l.items) (λ k. settled l.sum (cell_at l.items l.initial.frozen l.initial.targets k)) (item_in l.items)
    l.initial.frozen l.initial.targets l.frozen l.targets l.i
