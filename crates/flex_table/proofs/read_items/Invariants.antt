-- The items before i are those of the lists, those from i on as they were. Assumes nothing.
use Rattle.std.proofs.Common.{◌≡◌, ℕ, ◌≤◌, ◌<◌, length}
use Rattle.flex.specs.Items.{lists_of, item_at}
use Rattle.flex_table.specs.Table.{item_in}
use Rattle.flex_table.proofs.read_items.Given as goal

abbrev pub invariant-loop-i : goal.invariant-loop-i
invariant-loop-i l = record {
  long : length l.table ≡ length l.initial.table;
  done : (k : ℕ) → k < l.i → item_in l.table k ≡ item_at (lists_of l.items) k;
  rest : (k : ℕ) → l.i ≤ k → item_in l.table k ≡ item_in l.initial.table k;
}
