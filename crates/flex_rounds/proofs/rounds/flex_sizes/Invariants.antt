-- The flexed sizes: the unfrozen cells before i are at theirs, those from i on as they were, and the sum so far is of
-- the violations before i. Assumes nothing.
use Rattle.std.proofs.Common.{◌≡◌, length}
use Rattle.lists.specs.Cells.{each}
use Rattle.flex.specs.Flex.{total, left, violation}
use Rattle.flex.specs.Steps.{sized}
use Rattle.flex_table.specs.Table.{item_in}
use Rattle.flex_table.proofs.Each.{Turned}
use Rattle.flex_rounds.specs.Cells.{cell_at}
use Rattle.flex_rounds.proofs.rounds.flex_sizes.Given as goal

abbrev pub invariant-loop-i : goal.invariant-loop-i
invariant-loop-i l = record {
  turned :
      Turned (length l.items) (λ k. sized l.sh (cell_at l.items l.frozen l.initial.targets k)) (item_in l.items)
      l.frozen l.initial.targets l.frozen l.targets l.i;
  sum_is :
      l.sum ≡ total (λ c. violation l.sh c.item) (left (each l.i (cell_at l.items l.frozen l.initial.targets)));
}
