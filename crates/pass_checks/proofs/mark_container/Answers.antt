-- Number by number. Assumes nothing.
use mathlib.Core.Path.{ap, ◌∙◌}
use Rattle.checks.specs.Marks.{least_of}
use Rattle.place_checks.specs.Numbers.{cross_numbers}
use Rattle.place_checks.specs.declared.numbers.CrossNumbers.{CrossNumbers}
use Rattle.pass_checks.proofs.PassMarks.{container_marks}
use Rattle.pass_checks.proofs.mark_container.Goals as goal

pub returns : goal.returns
returns c =
    container_marks c.args.c (c.mark_cross-cross.ensures ∙ ap (λ (y : CrossNumbers). least_of (cross_numbers y) 0) c.into.ensures) c.mark_given-limit.ensures
    c.mark_code.ensures c.least.ensures c.least-m.ensures c.mark_code-2.ensures c.least-m-2.ensures c.mark_code-3.ensures c.least-m-3.ensures c.mark_code-4.ensures c.least-2.ensures
