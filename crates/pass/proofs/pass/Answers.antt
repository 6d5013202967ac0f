-- Checks 1 to 5, and where they pass the rest. Assumes nothing.
use Rattle.std.proofs.Common.{rules, Err, ◌≡◌, refl, sym, ap, ◌∙◌, length}
use Rattle.checks.specs.Domain.{shape, then}
use Rattle.checks.specs.Marks.{least_mark, judged}
use Rattle.pass_container.specs.Container.{break_mode}
use Rattle.pass_checks.specs.declared.LentLengths.{LentLengths}
use Rattle.pass_checks.specs.Checks.{pass_room, pass_input}
use Rattle.pass.specs.Lent.{lent_of}
use Rattle.pass.proofs.AcceptLaws.{first, lent_room, listed_of, refused_so, passed_so, sound_so, answered_as}
use Rattle.pass.proofs.pass.Goals as goal
use Rattle.pass.proofs.pass.Goals.{After-check_pass}

-- checks 1 to 5, of the lengths of the lent lists
checked : (c : After-check_pass) → let a = c.args in c.check_pass.result ≡ first a.c a.n a.numbers.now a.codes.now (lent_room a.c a.n a.numbers.now a.codes.now (lent_of a.lent.now))
checked c =
    let a = c.args in
    c.check_pass.ensures
    ∙ ap (λ (l : LentLengths). then (shape a.n (pass_room a.n (break_mode a.c) (length a.numbers.now) (length a.codes.now) l.placed l.lines l.counts l.rounds l.free l.work l.sums)) (judged (least_mark (pass_input a.c a.n a.numbers.now a.codes.now))))
    c.lengths.ensures

pub invariant_of-items : goal.invariant_of-items
invariant_of-items c = let a = c.args in
    let p = sound_so a.c a.n a.numbers.now a.codes.now (lent_room a.c a.n a.numbers.now a.codes.now (lent_of a.lent.now)) (sym (checked (goal.at.invariant_of-items c).After-check_pass) ∙ c.in_ok-check_pass.was) in
    let r = listed_of {c = a.c} {b = lent_of a.lent.now} (record { room = p.0; sound = p.1 }) in
    record { few = r.few; numbers_long = r.numbers_long; codes_long = r.codes_long }

pub pass_checked-requires : goal.pass_checked-requires
pass_checked-requires c = let a = c.args in
    let p = sound_so a.c a.n a.numbers.now a.codes.now (lent_room a.c a.n a.numbers.now a.codes.now (lent_of a.lent.now)) (sym (checked (goal.at.pass_checked-requires c).After-check_pass) ∙ c.in_ok-check_pass.was) in
    record { room = p.0; sound = p.1 }

pub returns-in_err-check_pass-clause-called : goal.returns-in_err-check_pass-clause-called
returns-in_err-check_pass-clause-called c =
    let a = c.args in
    let why = c.in_err-check_pass.field-0.0 in
    let e : c.from_residual.result ≡ Err why = search rules in
    rw e (refused_so a.c a.n a.numbers.now a.codes.now (lent_room a.c a.n a.numbers.now a.codes.now (lent_of a.lent.now)) why (sym (checked (goal.at.returns-in_err-check_pass-clause-called c).After-check_pass) ∙ c.in_err-check_pass.was), refl)

pub returns-clause-called : goal.returns-clause-called
returns-clause-called c = let a = c.args in
    let f = c.pass_checked in
    answered_as a.c a.n a.numbers.now a.codes.now (lent_of a.lent.now) f.result (lent_of f.new.lent)
    (sym (passed_so a.c a.n a.numbers.now a.codes.now (lent_room a.c a.n a.numbers.now a.codes.now (lent_of a.lent.now)) (sym (checked (goal.at.returns-clause-called c).After-check_pass) ∙ c.in_ok-check_pass.was))) f.ensures.answered
