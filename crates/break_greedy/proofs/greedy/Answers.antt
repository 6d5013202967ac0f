-- `greedy` meets its contract: where the checks pass, it is `greedy_checked`; where they refuse, nothing is written.
use Rattle.std.proofs.Common.{rules}
use Rattle.std.proofs.Common.{◌≤◌, ℕ, List, [], length, sym, ap, ◌∙◌, arith}
use lib.ListN.{length-map}
use mathlib.Core.Path.{ap₂}
use Rattle.std.specs.Prelude.{Float}
use borrow.Author.Tests.{leb-true}
use Rattle.grid.specs.Grid.{sixty_fourths}
use Rattle.checks.specs.Marks.{least_of}
use Rattle.keywords.specs.declared.AvailableSpace.{AvailableSpace}
use Rattle.break_greedy.specs.Breaking.{limit_of}
use Rattle.break_greedy.specs.Breaking as breaking
use Rattle.break_greedy.specs.Calls.{units, greedy_result, broken_into}
use Rattle.break_greedy.specs.Steps.{Breakable}
use Rattle.break_greedy.proofs.Accepted.{breakable}
use Rattle.break_greedy.proofs.Lines.{greedy_few}
use Rattle.break_greedy.proofs.greedy.Goals as goal
use Rattle.break_greedy.proofs.greedy.Goals.{In_ok-check_breaking}
use Rattle.checks.specs.Domain.{Verdict}
use Rattle.checks.specs.Domain.{done}

-- the counts of the lines
abbrev lines : AvailableSpace → Float → List Float → List ℕ
lines limit gap sizes = breaking.greedy (limit_of limit) (sixty_fourths gap) (units sizes)

-- what the verdict of the checks says where they pass
given : (c : In_ok-check_breaking) → Breakable c.args.limit c.args.gap c.args.sizes.now × (length c.args.sizes.now ≤ length c.args.counts.now)
unfolding least_of
given c =
    let a = c.args in
    let p = breakable [] a.limit a.gap a.sizes.now _ (sym (c.in_ok-check_breaking.ensures [] c.no_mark.ensures)) in
    (p.0, leb-true (length a.sizes.now) (length a.counts.now) p.1)

pub greedy_checked-lines-requires : goal.greedy_checked-lines-requires
greedy_checked-lines-requires c = given (goal.at.greedy_checked-lines-requires c).In_ok-check_breaking

-- there are few lines
pub overflow_cast-result : goal.overflow_cast-result
overflow_cast-result c =
    let a = c.args in
    let f = greedy_few (limit_of a.limit) (sixty_fourths a.gap) (units a.sizes.now) in
    omega (arith, c.greedy_checked-lines.ensures.number, length-map a.sizes.now sixty_fourths, (given (goal.at.overflow_cast-result c).In_ok-check_breaking).0.few)

pub returns-in_err-check_breaking : goal.returns-in_err-check_breaking
unfolding least_of
returns-in_err-check_breaking c =
    let a = c.args in
    rw (sym (ap (λ (v : Verdict). broken_into v (lines a.limit a.gap a.sizes.now) (length a.sizes.now) a.counts.now) (c.in_err-check_breaking.ensures [] c.no_mark.ensures)))
    (search rules)

pub returns : goal.returns
unfolding least_of
returns c =
    let a = c.args in
    let e = c.greedy_checked-lines.ensures in
    ap₂ (λ (k : ℕ) (l : List ℕ). greedy_result (done k 0) l) e.number e.cells
    ∙ ap (λ (v : Verdict). broken_into v (lines a.limit a.gap a.sizes.now) (length a.sizes.now) a.counts.now) (c.in_ok-check_breaking.ensures [] c.no_mark.ensures)
