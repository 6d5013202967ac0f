-- The first i cells are the sizes of the first i items, the others as they were.
use Rattle.std.proofs.Common.{◌≡◌, ◌++◌, ◌+◌, ℕ, List, drop, Float}
use Rattle.flex.specs.declared.Item.{Item}
use Rattle.flex.specs.Flex.{outer, hypothetical}
use Rattle.lists.specs.Cells.{each}
use Rattle.flex_table.specs.Table.{item_in}
use Rattle.pass_break.proofs.outer_sizes.Given as goal

-- the size of item i of the table
abbrev pub size : List Item → ℕ → Float
size t i = outer (item_in t (0 + i)) (hypothetical (item_in t (0 + i)))

abbrev pub invariant-loop-i : goal.invariant-loop-i
invariant-loop-i l = l.sizes ≡ each l.i (size l.table) ++ drop l.i l.initial.sizes
