-- `place_checks::marks::mark_cross_items` meets its contract: the least of the lists' marks is that of the items. Assumes nothing.
use Rattle.place_size.specs.Lists.{lists_of}
use Rattle.place_checks.proofs.ItemMarks.{items_marked}
use Rattle.place_checks.proofs.marks.mark_cross_items.Goals as goal

pub returns : goal.returns
returns c = let s = c.args in
    let ls = lists_of s.items in
    items_marked ls c.requires c.mark_list-sizes.ensures c.mark_list-minima.ensures c.mark_list-around.ensures c.mark_beside-maxima.ensures c.mark_beside-before.ensures c.mark_beside-after.ensures c.least.ensures c.least-2.ensures c.least-3.ensures c.least-4.ensures c.least-5.ensures
