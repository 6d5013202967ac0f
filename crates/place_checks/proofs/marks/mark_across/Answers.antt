-- `place_checks::marks::mark_across` meets its contract: two codes more of each item. Assumes nothing.
use Rattle.place_size.specs.Lists.{lists_of}
use Rattle.place_checks.proofs.ItemMarks.{across_marked}
use Rattle.place_checks.proofs.marks.mark_across.Goals as goal

pub returns : goal.returns
returns c = let s = c.args in
    let ls = lists_of s.items.cross in
    across_marked ls s.items.alignment.now s.items.auto_size.now c.requires c.mark_cross_items-numbers.ensures c.mark_code_list-alignments.ensures c.mark_code_list.ensures c.least.ensures c.least-2.ensures
