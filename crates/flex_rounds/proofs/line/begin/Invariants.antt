-- The first cells: those before i are the definition's, those from i on as they were. Assumes nothing.
use Rattle.std.proofs.Common.{length}
use Rattle.flex.specs.Flex.{start_cell}
use Rattle.flex_table.specs.Table.{item_in}
use Rattle.flex_table.proofs.Each.{Turned}
use Rattle.flex_rounds.proofs.line.begin.Given as goal

abbrev pub invariant-loop-i : goal.invariant-loop-i
invariant-loop-i l =
    Turned (length l.items) (λ k. start_cell l.growing (item_in l.items k)) (item_in l.items) l.initial.frozen
    l.initial.targets l.frozen l.targets l.i
