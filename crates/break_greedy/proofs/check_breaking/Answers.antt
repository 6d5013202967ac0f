-- `check_breaking` meets its contract: the least mark says what checks 3 to 5 say (Accepted.antt), and where it passes the sum may be taken.
use Rattle.std.proofs.Common.{rules}
use Rattle.std.proofs.Common.{◌≡◌, ℕ, List, length, min, sym, ap, ◌∙◌}
use mathlib.Core.Path.{ap₂}
use Rattle.checks.specs.Domain.{Number, checked, summed, then, Verdict}
use Rattle.checks.specs.Marks.{least_of, judged}
use Rattle.checks.proofs.Checks.{shape_passed}
use Rattle.break_greedy.specs.Calls.{breaking_input, sizes_sum, breaking_verdict}
use Rattle.break_greedy.proofs.Accepted.{then_refused, then_rest, breaking_mark, verdict_is, passed_lawful}
use Rattle.break_greedy.proofs.check_breaking.Goals as goal
use Rattle.break_greedy.proofs.check_breaking.Goals.{After-judge}

-- what is judged is the mark of the call
marked : (c : After-judge) → c.judge.result ≡ judged (breaking_mark c.args.codes.0 c.args.limit c.args.gap c.args.sizes.now)
marked c =
    c.judge.ensures
    ∙ ap judged
    (c.least-2.ensures
    ∙ ap₂ min (c.least.ensures ∙ ap (min c.args.codes.0) (c.least-container.ensures ∙ ap₂ min c.mark_space.ensures c.mark_float.ensures)) c.mark_floats-items.ensures)

-- the verdict of the call, from what is judged
whole : (c : After-judge) (cs : List Number) → c.args.codes.0 ≡ least_of cs 0
    → then c.judge.result (summed (sizes_sum c.args.gap c.args.sizes.now)) ≡ breaking_verdict cs c.args.limit c.args.gap c.args.sizes.now c.args.room
whole c cs e =
    let a = c.args in
    ap (λ (v : Verdict). then v (summed (sizes_sum a.gap a.sizes.now))) (marked c)
    ∙ verdict_is cs a.limit a.gap a.sizes.now a.room _ (sym c.check_shape.ensures ∙ c.in_ok-check_shape.was) (ap (λ (k : ℕ). breaking_mark k a.limit a.gap a.sizes.now) e)

pub returns-in_err-check_shape : goal.returns-in_err-check_shape
unfolding breaking_verdict
returns-in_err-check_shape c cs e =
    let a = c.args in
    rw (sym (sym c.in_err-check_shape.was ∙ sym (then_refused (checked (breaking_input cs a.limit a.gap a.sizes.now) (summed (sizes_sum a.gap a.sizes.now))) c.in_err-check_shape.was)
    ∙ ap (λ (v : Verdict). then v (checked (breaking_input cs a.limit a.gap a.sizes.now) (summed (sizes_sum a.gap a.sizes.now)))) c.check_shape.ensures)) (search rules)

pub returns-in_err-judge : goal.returns-in_err-judge
returns-in_err-judge c cs e =
    rw (sym (sym c.in_err-judge.was ∙ sym (then_refused _ c.in_err-judge.was) ∙ whole (goal.at.returns-in_err-judge c).After-judge cs e))
    (search rules)

pub sum_floats-requires : goal.sum_floats-requires
sum_floats-requires c =
    let a = c.args in
    let n = (shape_passed (length a.sizes.now) a.room (sym c.check_shape.ensures ∙ c.in_ok-check_shape.was)).0 in
    let l = passed_lawful a.codes.0 a.limit a.gap a.sizes.now n (sym (marked (goal.at.sum_floats-requires c).After-judge) ∙ c.in_ok-judge.was) in
    (n, l.spacing, l.each)

pub returns : goal.returns
returns c cs e =
    c.check_sum.ensures ∙ ap summed c.sum_floats.ensures ∙ sym (then_rest _ c.in_ok-judge.was) ∙ whole (goal.at.returns c).After-judge cs e
