-- `balance::balanced` meets its contract: by the verdict of the checks, which is document 01's for these lists.
use Rattle.std.proofs.Common.{rules, sym, ◌∙◌, ◌≡◌, []}
use Rattle.std.specs.declared.result.Result.TheVariants.{Err}
use Rattle.checks.specs.Marks.{least_of}
use Rattle.balance.specs.Calls.{break_lent, balanced_verdict}
use Rattle.balance.proofs.Call.{verdict_is, given, call_refused, call_accepted}
use Rattle.balance.proofs.balanced.Goals as goal
use Rattle.balance.proofs.balanced.Goals.{After-check_breaking}

-- what the checks answer is the verdict for these lists
judged : (c : After-check_breaking) → c.check_breaking.result ≡ balanced_verdict [] c.args.limit c.args.gap c.args.sizes.now (break_lent c.args.counts.now c.args.work.now c.args.sums.now)
unfolding least_of
judged c =
    let a = c.args in
    let room = c.has_room-room in
    c.check_breaking.ensures [] c.no_mark.ensures ∙ verdict_is [] a.limit a.gap a.sizes.now (break_lent a.counts.now a.work.now a.sums.now) room.result room.ensures

pub divide_lent-lines-requires : goal.divide_lent-lines-requires
divide_lent-lines-requires c =
    let a = c.args in
    given [] a.limit a.gap a.sizes.now (break_lent a.counts.now a.work.now a.sums.now) (sym (judged (goal.at.divide_lent-lines-requires c).After-check_breaking) ∙ c.in_ok-check_breaking.was)

pub returns-in_err-check_breaking : goal.returns-in_err-check_breaking
returns-in_err-check_breaking c =
    let a = c.args in
    let why = c.in_err-check_breaking.field-0.0 in
    let e : c.from_residual.result ≡ Err why = search rules in
    rw e (call_refused [] a.limit a.gap a.minimum a.sizes.now (break_lent a.counts.now a.work.now a.sums.now) why (sym (judged (goal.at.returns-in_err-check_breaking c).After-check_breaking) ∙ c.in_err-check_breaking.was))

pub returns : goal.returns
returns c =
    let a = c.args in
    let d = c.divide_lent-lines in
    call_accepted [] a.limit a.gap a.minimum a.sizes.now (break_lent a.counts.now a.work.now a.sums.now) d.result (break_lent d.new.counts d.new.work d.new.sums)
    (sym (judged (goal.at.returns c).After-check_breaking) ∙ c.in_ok-check_breaking.was) d.ensures
