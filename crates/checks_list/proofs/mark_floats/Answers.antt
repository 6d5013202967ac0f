-- `checks_list::mark_floats` meets its contract. The loop's invariant: m is the least mark of the items passed. Assumes nothing.
use mathlib.Core.Path.{sym, ap, ap₂, ◌∙◌}
use Prim.Native.Nat.{◌+◌, min}
use native.Mathlib.Omega.{arith}
use lib.ListN.{length, get_or}
use lib.Ieee.{nan}
use Rattle.checks.specs.Domain.{float}
use Rattle.checks.specs.Marks.{least_up_to}
use Rattle.checks.proofs.Sweep.{least_none, least_more}
use Rattle.checks_number.specs.Bounds.{fine}
use Rattle.checks_number.proofs.Fine.{fine-mark}
use Rattle.checks_list.proofs.Every.{no_marks}
use Rattle.checks_list.proofs.mark_floats.Goals as goal
use Rattle.checks_list.proofs.mark_floats.Invariants.{marks}

pub returns-then-are_fine : goal.returns-then-are_fine
returns-then-are_fine c =
    let a = c.args in
    let xs = c.args.xs.now in
    c.no_mark.ensures
    ∙ sym (no_marks (marks a.kind xs) (λ i. fine (float a.kind (get_or xs i nan))) (λ i e. fine-mark (float a.kind (get_or xs i nan)) (i + 1) e) (length xs) (sym c.are_fine.ensures ∙ c.if-are_fine.true))

pub loop-i-init : goal.loop-i-init
loop-i-init c = c.no_mark-m.ensures ∙ sym (least_none (marks c.args.kind c.args.xs.now))

pub loop-i-preserved : goal.loop-i-preserved
loop-i-preserved c = c.least-m.ensures ∙ ap₂ min c.loop-i.invariant c.mark_float.ensures ∙ sym (least_more (marks c.args.kind c.args.xs.now) _)

pub returns : goal.returns
returns c = c.loop-i.invariant ∙ ap (least_up_to (marks c.args.kind c.args.xs.now)) (omega arith)
