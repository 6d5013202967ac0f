-- The least mark of the numbers that are given: m is that of the items passed. Assumes nothing.
use mathlib.Core.Path.{◌≡◌, sym, ap, ap₂, ◌∙◌}
use mathlib.Core.Bool.{not, ◌||◌}
use Prim.Native.Nat.{ℕ, ◌+◌, min}
use native.Mathlib.Omega.{arith}
use lib.Dec.{eqb}
use lib.ListN.{length, get_or}
use lib.Ieee.{nan}
use Rattle.checks.specs.Domain.{float}
use Rattle.checks.specs.Marks.{least_up_to}
use Rattle.checks.proofs.Sweep.{least_none, least_more}
use Rattle.checks_number.specs.Bounds.{fine}
use Rattle.checks_list.proofs.Every.{no_marks, given_none}
use Rattle.checks_list.proofs.mark_floats_where.Goals as goal
use Rattle.checks_list.proofs.mark_floats_where.Goals.{Start}
use Rattle.checks_list.proofs.mark_floats_where.Invariants.{marks}

-- the marks of the lists that the function is called with
abbrev given : Start → ℕ → ℕ
given c = marks c.args.kind c.args.xs.now c.args.codes.now c.args.taken

pub are_fine_where-requires : goal.are_fine_where-requires
are_fine_where-requires c = c.requires.1

pub returns-then-are_fine_where : goal.returns-then-are_fine_where
returns-then-are_fine_where c =
    let xs = c.args.xs.now in
    let codes = c.args.codes.now in
    c.no_mark.ensures
    ∙ sym
    (no_marks (given (goal.at.returns-then-are_fine_where c).Start) (λ i. not (eqb (get_or codes i 0) c.args.taken) || fine (float c.args.kind (get_or xs i nan)))
    (λ i e. given_none (eqb (get_or codes i 0) c.args.taken) (float c.args.kind (get_or xs i nan)) (i + 1) e) (length xs) (sym c.are_fine_where.ensures ∙ c.if-are_fine_where.true))

pub loop-i-init : goal.loop-i-init
loop-i-init c = c.no_mark-m.ensures ∙ sym (least_none (given (goal.at.loop-i-init c).Start))

pub loop-i-preserved : goal.loop-i-preserved
loop-i-preserved c = c.least-m.ensures ∙ ap₂ min c.loop-i.invariant c.mark_given.ensures ∙ sym (least_more (given (goal.at.loop-i-preserved c).Start) c.loop-i.i)

pub returns : goal.returns
returns c =
    let n : c.loop-i.i ≡ length c.args.xs.now = omega (arith, c.loop-i-test.false, c.loop-i.auto.i-end) in
    c.loop-i.invariant ∙ ap (least_up_to (given (goal.at.returns c).Start)) n
