-- The items are read, check 6 is made, and then all stages. Assumes nothing.
use Rattle.std.proofs.Common.{rules, Err, ◌≡◌, List, refl, sym, ap, ◌∙◌, subst, take, Float, length-take-le}
use native.Mathlib.Nat.{le_trans, le_of_eq}
use Rattle.grid.specs.Grid.{cleaned}
use Rattle.grid.specs.Values.{Length}
use Rattle.checks.specs.Domain.{summed}
use Rattle.checks.proofs.Checks.{summed_passed}
use Rattle.flex.specs.declared.Item.{Item}
use Rattle.flex.specs.Flex.{outer_sum}
use Rattle.flex_table.specs.Table.{Wide, items_in}
use Rattle.pass_checks.specs.Checks.{pass_sum}
use Rattle.pass.proofs.LaidLaws.{items_in_lem}
use Rattle.pass.proofs.AcceptLaws.{wide_of, listed_of, gap_is, first_are, all_measured, accepted_of}
use Rattle.pass.proofs.pass_checked.Goals as goal
use Rattle.pass.proofs.pass_checked.Goals.{After-outer_sum, After-read_main}

abbrev items : After-read_main → List Item
items c = c.read_main.new.table

wide : (c : After-read_main) → Wide (items c) c.args.items.count
wide c = wide_of (items c) c.args.items.count c.read_main.auto.table (listed_of c.requires).few

-- the sum of check 6
sum_is : (c : After-outer_sum) → c.outer_sum.result ≡ outer_sum (cleaned c.args.c.gap_main) (items_in c.read_main.new.table 0 c.args.items.count)
sum_is c =
    c.outer_sum.ensures ∙ ap (λ (g : Float). outer_sum g (take c.args.items.count c.read_main.new.table)) c.clean-gap.ensures
    ∙ ap (outer_sum (cleaned c.args.c.gap_main)) (first_are c.requires c.read_main.new.table (wide_of c.read_main.new.table c.args.items.count c.read_main.auto.table (listed_of c.requires).few) c.read_main.ensures.held)

pass-sum : (c : After-outer_sum) → c.outer_sum.result ≡ pass_sum c.args.c c.args.items.count c.args.items.numbers.now c.args.items.codes.now
pass-sum c = sum_is c ∙ ap (outer_sum (cleaned c.args.c.gap_main)) (items_in_lem c.read_main.new.table (listed_of c.requires) c.read_main.ensures.held)

pub outer_sum-requires : goal.outer_sum-requires
outer_sum-requires c =
    let k = c.requires in
    let w = wide (goal.at.outer_sum-requires c).After-read_main in
    (le_trans (le_of_eq (length-take-le c.args.items.count c.read_main.new.table w.1)) w.0, subst Length (sym c.clean-gap.ensures) (gap_is k), all_measured k c.read_main.new.table w c.read_main.ensures.held)

pub lay_out-requires : goal.lay_out-requires
lay_out-requires c =
    let w = summed_passed c.outer_sum.result (sym c.check_sum.ensures ∙ c.in_ok-check_sum.was) in
    accepted_of c.requires (c.read_main.new.table) (wide (goal.at.lay_out-requires c).After-read_main) c.read_main.ensures.held (le_trans {m = c.outer_sum.result} (le_of_eq (sym (sum_is (goal.at.lay_out-requires c).After-outer_sum))) w)

pub returns-in_err-check_sum-clause-answered : goal.returns-in_err-check_sum-clause-answered
returns-in_err-check_sum-clause-answered c =
    let why = c.in_err-check_sum.field-0.0 in
    let e : c.from_residual.result ≡ Err why = search rules in
    rw e (sym (ap summed (pass-sum (goal.at.returns-in_err-check_sum-clause-answered c).After-outer_sum)) ∙ sym c.check_sum.ensures ∙ c.in_err-check_sum.was, refl)

pub returns-clause-answered : goal.returns-clause-answered
returns-clause-answered c = (sym (ap summed (pass-sum (goal.at.returns-clause-answered c).After-outer_sum)) ∙ sym c.check_sum.ensures ∙ c.in_ok-check_sum.was, c.lay_out.ensures)
