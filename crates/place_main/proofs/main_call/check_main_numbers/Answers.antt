-- `place_main::main_call::check_main_numbers` meets its contract: the least mark of its parts. Assumes nothing.
use Rattle.std.proofs.Common.{min, ap, ◌∙◌}
use Rattle.checks.specs.Marks.{judged}
use Rattle.place_main.specs.Lists.{lists_of}
use Rattle.place_main.proofs.MainCalled.{main_checked}
use Rattle.place_main.proofs.main_call.check_main_numbers.Goals as goal

pub returns : goal.returns
returns c = let s = c.args in
    c.judge.ensures ∙ ap judged (c.least-2.ensures ∙ ap (min c.mark_main_container-container.result.0) (c.least.ensures ∙ ap (min c.mark_list.result.0) c.least-margins.ensures))
    ∙ main_checked s.inner s.gap s.justify s.reversed (lists_of s.items) c.requires c.mark_main_container-container.ensures c.mark_list.ensures c.mark_beside.ensures c.mark_beside-2.ensures
