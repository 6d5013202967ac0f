-- The items before i are those of the lists, those from i on as they were. Assumes nothing.
use mathlib.Core.Path.{◌≡◌, ◌∙◌}
use native.Mathlib.Nat.{ne_of_lt, ne_of_gt}
use native.Mathlib.Omega.{arith}
use borrow.Author.Count.{below_more}
use lib.ListN.{length-set, set}
use lib.Seq.{get_or-set_same, get_or-set_other}
use Rattle.flex.specs.Items.{lists_of, item_at}
use Rattle.flex_table.specs.Table.{no_item, item_in}
use Rattle.flex_table.proofs.read_items.Goals as goal

pub loop-i-preserved : goal.loop-i-preserved
loop-i-preserved c =
    let l = c.loop-i in
    let it = c.read_item.result in
    record {
      long = length-set l.table l.i it ∙ l.invariant.long;
      done =
          below_more (λ k. item_in (set l.table l.i it) k ≡ item_at (lists_of c.args.items) k) l.i
          (λ k h. get_or-set_other l.table l.i k it no_item (ne_of_lt h) ∙ l.invariant.done k h)
          (get_or-set_same l.table l.i it no_item (omega arith) ∙ c.read_item.ensures);
      rest = λ k h. get_or-set_other l.table l.i k it no_item (ne_of_gt (omega arith)) ∙ l.invariant.rest k (omega arith);
    }
