-- `place_across_call::place_across` meets its contract: a passed shape says that the lists are of one length. Assumes nothing.
use Rattle.place_size.specs.Lists.{lists_of}
use Rattle.place_across_call.proofs.AcrossCalled.{across_even}
use Rattle.place_across_call.proofs.place_across.Goals as goal

pub check_across_numbers-requires : goal.check_across_numbers-requires
check_across_numbers-requires c = let s = c.args in
    let cells = s.cells.now in
    across_even s.line s.reversed (lists_of s.items.cross) s.items.alignment.now s.items.auto_size.now cells.sizes.now cells.used_start.now cells.used_end.now cells.offsets.now c.in_ok-check_across_shape.ensures

pub place_items-requires-clause-same_lengths : goal.place_items-requires-clause-same_lengths
place_items-requires-clause-same_lengths c = let s = c.args in
    let cells = s.cells.now in
    across_even s.line s.reversed (lists_of s.items.cross) s.items.alignment.now s.items.auto_size.now cells.sizes.now cells.used_start.now cells.used_end.now cells.offsets.now c.in_ok-check_across_shape.ensures
