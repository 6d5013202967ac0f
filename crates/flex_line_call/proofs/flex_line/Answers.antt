-- The call for one line: what it answers is what its checks say, in their order. Assumes nothing.
use Rattle.std.proofs.Common.{rules}
use mathlib.Core.Path.{sym}
use Rattle.flex.specs.Items.{lists_of}
use Rattle.flex_line_call.proofs.OneLine.{shown, answered_refused, answered_passed}
use Rattle.flex_line_call.proofs.flex_line.Goals as goal

pub invariant_of-line : goal.invariant_of-line
invariant_of-line c =
    let a = c.args in
    let p = shown a.inner a.gap (lists_of a.items) _ (sym c.in_ok-check_line.ensures) in
    record { even = p.0; sound = p.2 }

pub flex-requires : goal.flex-requires
flex-requires c =
    let a = c.args in
    (shown a.inner a.gap (lists_of a.items) _ (sym c.in_ok-check_line.ensures)).1

pub returns-in_err-check_line : goal.returns-in_err-check_line
returns-in_err-check_line c =
    let a = c.args in
    answered_refused a.inner a.gap (lists_of a.items) a.targets.now _ _ (sym c.in_err-check_line.ensures) (search rules)

pub returns : goal.returns
returns c =
    let a = c.args in
    answered_passed a.inner a.gap (lists_of a.items) a.targets.now c.flex.new.targets c.flex.result
    (sym c.in_ok-check_line.ensures) c.flex.ensures
