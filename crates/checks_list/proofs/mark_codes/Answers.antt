-- The least mark of a list of codes: m is that of the codes passed. Assumes nothing.
use mathlib.Core.Path.{sym, ap, ap₂, ◌∙◌}
use Prim.Native.Nat.{◌+◌, min}
use native.Mathlib.Omega.{arith}
use lib.Dec.{leb}
use lib.ListN.{length, get_or}
use Rattle.checks.specs.Marks.{least_up_to}
use Rattle.checks.proofs.Sweep.{least_none, least_more}
use Rattle.checks_list.proofs.Every.{no_marks, named_none}
use Rattle.checks_list.proofs.mark_codes.Goals as goal
use Rattle.checks_list.proofs.mark_codes.Invariants.{marks}

pub returns-then-are_named : goal.returns-then-are_named
returns-then-are_named c =
    let a = c.args in
    let codes = c.args.codes.now in
    c.no_mark.ensures
    ∙ sym (no_marks (marks a.most codes) (λ i. leb (get_or codes i 0) a.most) (λ i e. named_none a.most (get_or codes i 0) (i + 1) e) (length codes) (sym c.are_named.ensures ∙ c.if-are_named.true))

pub loop-i-init : goal.loop-i-init
loop-i-init c = c.no_mark-m.ensures ∙ sym (least_none (marks c.args.most c.args.codes.now))

pub loop-i-preserved : goal.loop-i-preserved
loop-i-preserved c = c.least-m.ensures ∙ ap₂ min c.loop-i.invariant c.mark_code.ensures ∙ sym (least_more (marks c.args.most c.args.codes.now) _)

pub returns : goal.returns
returns c = c.loop-i.invariant ∙ ap (least_up_to (marks c.args.most c.args.codes.now)) (omega arith)
