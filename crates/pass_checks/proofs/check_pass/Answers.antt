-- Checks 1 and 2, and where they pass the numbers. Assumes nothing.
use Rattle.std.proofs.Common.{◌≡◌, sym, ap, ◌∙◌, subst, length}
use Rattle.checks.specs.Domain.{shape}
use Rattle.keywords.specs.declared.Mode.{Mode}
use Rattle.keywords.specs.Wrapping.{mode_of}
use Rattle.pass_container.specs.Container.{break_mode}
use Rattle.pass_checks.specs.Checks.{pass_room}
use Rattle.pass_checks.proofs.Rooms.{roomy_of}
use Rattle.pass_checks.proofs.check_pass.Goals as goal
use Rattle.pass_checks.proofs.check_pass.Goals.{After-check_lists}

-- checks 1 and 2, by the container's wrap mode
lists : (c : After-check_lists) → let a = c.args in c.check_lists.result ≡ shape a.n (pass_room a.n (break_mode a.c) (length a.numbers.now) (length a.codes.now) a.lent.placed a.lent.lines a.lent.counts a.lent.rounds a.lent.free a.lent.work a.lent.sums)
lists c =
    let a = c.args in
    subst (λ (w : Mode). c.check_lists.result ≡ shape a.n (pass_room a.n w (length a.numbers.now) (length a.codes.now) a.lent.placed a.lent.lines a.lent.counts a.lent.rounds a.lent.free a.lent.work a.lent.sums)) (c.mode_of.ensures ∙ ap mode_of c.wrap_of.ensures) c.check_lists.ensures

pub invariant_of-check_numbers : goal.invariant_of-check_numbers
invariant_of-check_numbers c =
    let a = c.args in
    let r = roomy_of a.n (break_mode a.c) (length a.numbers.now) (length a.codes.now) a.lent.placed a.lent.lines a.lent.counts a.lent.rounds a.lent.free a.lent.work a.lent.sums (sym (lists (goal.at.invariant_of-check_numbers c).After-check_lists) ∙ c.in_ok-check_lists.was) in
    record { few = r.few; numbers_long = r.numbers_long; codes_long = r.codes_long }
