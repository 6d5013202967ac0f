-- `place_across_call::check_across_numbers` meets its contract: the least mark of its parts. Assumes nothing.
use Rattle.place_size.specs.Lists.{lists_of}
use Rattle.place_across_call.proofs.AcrossCalled.{across_checked}
use Rattle.place_across_call.proofs.check_across_numbers.Goals as goal

pub returns : goal.returns
returns c = let s = c.args in
    across_checked s.line s.reversed (lists_of s.items.cross) s.items.alignment.now s.items.auto_size.now c.requires c.mark_float.ensures c.mark_code.ensures c.least-container.ensures c.mark_across.ensures c.least.ensures c.judge.ensures
