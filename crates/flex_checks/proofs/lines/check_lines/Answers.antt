-- Checks 1 to 5: where the lengths pass, the numbers are checked, and the counts beside them. Assumes nothing.
use mathlib.Core.Path.{sym, ap, ap₂, ◌∙◌}
use Prim.Native.Nat.{ℕ}
use Rattle.checks.specs.Domain.{Verdict, then}
use Rattle.checks.specs.Marks.{mark, least_mark, judged}
use Rattle.flex.specs.Items.{lists_of}
use Rattle.flex_checks.specs.Counts.{division, lines_input}
use Rattle.flex_checks.proofs.Accept.{even_of}
use Rattle.flex_checks.proofs.Division.{lines_mark}
use Rattle.flex_checks.proofs.lines.check_lines.Goals as goal

pub mark_numbers-numbers-requires : goal.mark_numbers-numbers-requires
mark_numbers-numbers-requires c =
    (even_of (lists_of c.args.items) c.args.room (sym c.check_lengths.ensures ∙ c.in_ok-check_lengths.was)).0

pub returns : goal.returns
returns c =
    let a = c.args in
    let ls = lists_of a.items in
    let judgement = judged (least_mark (lines_input a.inner a.gap a.counts.now ls)) in
    let passed = ap₂ (λ (v w : Verdict). then (then v w) judgement)
    (sym c.check_shape.ensures ∙ c.in_ok-check_shape.was) (sym c.check_lengths.ensures ∙ c.in_ok-check_lengths.was) in
    let divided = c.mark_counts.ensures ∙ ap (λ (n : ℕ). mark (division a.counts.now n) 0) c.len.ensures in
    c.judge.ensures
    ∙ ap judged (lines_mark a.inner a.gap a.counts.now ls _ _ _ c.mark_numbers-numbers.ensures divided c.least.ensures)
    ∙ sym passed
