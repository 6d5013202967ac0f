-- `break_limit` meets its contract: with no codes before them the checks are the definition's, and past them the limit is.
use Rattle.std.proofs.Common.{rules, sym, ap, ◌∙◌, []}
use Rattle.checks.specs.Marks.{least_of}
use Rattle.std.specs.declared.result.Result.TheVariants.{Ok}
use Rattle.break_limit.specs.Limit.{limit_from}
use Rattle.break_limit.proofs.break_limit.Goals as goal
use Rattle.checks.specs.Domain.{Verdict}

pub returns-in_err-check_limit : goal.returns-in_err-check_limit
unfolding least_of
returns-in_err-check_limit c = rw (sym (c.in_err-check_limit.ensures [] c.no_mark.ensures)) (search rules)

pub returns : goal.returns
unfolding least_of
returns c = ap Ok c.limit_of.ensures ∙ ap (λ (v : Verdict). limit_from v c.args.q) (c.in_ok-check_limit.ensures [] c.no_mark.ensures)
