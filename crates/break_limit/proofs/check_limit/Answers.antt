-- `check_limit` meets its contract: the least mark says what the checks say.
use Rattle.std.proofs.Common.{ap, ◌∙◌, min}
use mathlib.Core.Path.{ap₂}
use Rattle.checks.specs.Marks.{judged}
use Rattle.break_limit.proofs.Checked.{query_checked}
use Rattle.break_limit.proofs.check_limit.Goals as goal

pub returns : goal.returns
returns c cs e =
    c.judge.ensures
    ∙ ap judged (c.least.ensures
    ∙ ap₂ min e (c.least-numbers.ensures ∙ ap₂ min c.mark_space.ensures (c.least-bounds.ensures ∙ ap₂ min c.mark_bound.ensures c.mark_bound-2.ensures)))
    ∙ query_checked cs c.args.q
