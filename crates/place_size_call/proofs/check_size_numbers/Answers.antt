-- `place_size_call::check_size_numbers` meets its contract: the least mark of its parts. Assumes nothing.
use Rattle.place_size.specs.Lists.{lists_of}
use Rattle.place_size_call.proofs.SizeCalled.{size_checked}
use Rattle.place_size_call.proofs.check_size_numbers.Goals as goal

pub returns : goal.returns
returns c = let s = c.args in
    size_checked s.c (lists_of s.items) c.requires c.mark_sizing-container.ensures c.mark_cross_items-line.ensures c.least.ensures c.judge.ensures
