-- The least of the parts' marks, judged. Assumes nothing.
use mathlib.Core.Path.{ap, ◌∙◌}
use native.Mathlib.Omega.{arith}
use Rattle.checks.specs.Marks.{judged}
use Rattle.pass_checks.proofs.Taken.{number_length, of_items}
use Rattle.pass_checks.proofs.PassMarks.{pass_marks}
use Rattle.pass_checks.proofs.check_numbers.Goals as goal

pub returns : goal.returns
returns c =
    c.judge.ensures ∙ ap judged (pass_marks c.args.c c.args.items.count c.args.items.numbers.now c.args.items.codes.now (number_length (of_items c.args.items) 0 (omega arith)) c.mark_main-main.ensures c.mark_across-across.ensures c.mark_container.ensures c.least.ensures c.least-2.ensures)
