-- The sum of check 6: the total so far is that of the items so far, and far below what a u64 holds. Assumes nothing.
use Rattle.std.proofs.Common.{◌≡◌, ◌*◌, ◌≤◌, take}
use Rattle.flex.specs.Flex.{outer_sum}
use Rattle.flex_table.proofs.sum.outer_sum.Given as goal

abbrev pub invariant-loop-it : goal.invariant-loop-it
invariant-loop-it l = record {
  small : l.total ≤ l.it-index * 67108864;
  is : l.total ≡ outer_sum l.gap (take l.it-index l.items);
}
