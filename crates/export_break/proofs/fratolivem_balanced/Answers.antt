-- `export_break::fratolivem_balanced` meets its contract: a kind that names nothing is refused by the checks, and one that names a space
-- changes nothing of what the checks say, so that the call inside answers. Assumes nothing.
use mathlib.Core.Path.{ap, ◌∙◌}
use Rattle.checks.specs.Domain.{Verdict}
use Rattle.checks.specs.Marks.{as_answer}
use Rattle.balance.specs.Calls.{break_lent}
use Rattle.balance.proofs.Call.{verdict_is}
use Rattle.keywords.specs.Space.{space_of}
use Rattle.export_break.specs.Breaks.{kind_number}
use Rattle.export_break.proofs.Codes.{balanced_unnamed, balanced_named}
use Rattle.export_break.proofs.fratolivem_balanced.Goals as goal

pub returns-then-limit_kind-gt2 : goal.returns-then-limit_kind-gt2
returns-then-limit_kind-gt2 c =
    let a = c.args in
    let lent = break_lent a.counts.now a.work.now a.sums.now in
    let room = c.has_room-room in
    let judged = verdict_is (kind_number a.limit_kind) (space_of a.limit_kind a.limit) a.gap a.sizes.now lent room.result room.ensures in
    record {
      inside = c.unnamed.result;
      told = c.into.ensures;
      called = balanced_unnamed a.limit_kind a.limit a.gap a.minimum a.sizes.now lent c.if-limit_kind-gt2.true
          (rw c.space_of-space.ensures at c.unnamed.ensures ∙ ap (λ (v : Verdict). as_answer v 0 0) judged);
    }

pub returns : goal.returns
returns c =
    let a = c.args in
    let lent = break_lent a.counts.now a.work.now a.sums.now in
    record {
      inside = c.balanced.result;
      told = c.into-2.ensures;
      called = balanced_named a.limit_kind a.limit a.gap a.minimum a.sizes.now lent c.if-limit_kind-gt2.false
          (rw c.space_of-space.ensures at c.balanced.ensures);
    }
