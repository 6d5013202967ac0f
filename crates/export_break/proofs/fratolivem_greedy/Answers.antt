-- `export_break::fratolivem_greedy` meets its contract: a kind that names nothing is refused by the checks, and one that names a space
-- changes nothing of what the checks say, so that the call inside answers. Assumes nothing.
use mathlib.Core.Path.{ap, ◌∙◌}
use Rattle.break_greedy.specs.Calls.{GreedyResult}
use Rattle.export_answer.specs.Crossing.{c_answer}
use Rattle.export_break.proofs.Codes.{unnamed, named}
use Rattle.export_break.proofs.fratolivem_greedy.Goals as goal

pub returns-then-limit_kind-gt2 : goal.returns-then-limit_kind-gt2
returns-then-limit_kind-gt2 c =
    let a = c.args in
    let told = unnamed a.limit_kind a.limit a.gap a.sizes.now a.counts.now c.if-limit_kind-gt2.true (rw c.space_of-space.ensures at c.unnamed.ensures) in
    record { answer = c.into.ensures ∙ ap c_answer told.0; cells = told.1 }

pub returns : goal.returns
returns c =
    let a = c.args in
    let called = rw c.space_of-space.ensures at c.greedy.ensures in
    let same = called ∙ named a.limit_kind a.limit a.gap a.sizes.now a.counts.now c.if-limit_kind-gt2.false in
    record { answer = c.into-2.ensures ∙ ap (λ (b : GreedyResult). c_answer b.answer) same; cells = ap (λ (b : GreedyResult). b.counts) same }
