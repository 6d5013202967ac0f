-- The least of all marks is that of the input. Assumes nothing.
use Rattle.checks.specs.Domain.{float}
use Rattle.checks.specs.declared.Kind.TheVariants.{Size}
use Rattle.flex.specs.Items.{lists_of}
use Rattle.flex_checks.proofs.Marked.{container_is, input_is}
use Rattle.flex_checks.proofs.mark_numbers.Goals as goal

pub returns : goal.returns
returns c =
    let a = c.args in
    input_is a.inner a.gap (lists_of a.items) c.requires _ _ _ _ _ _ _ _ _
    (container_is (float Size a.inner) (float Size a.gap) _ _ _ c.mark_float.ensures c.mark_float-2.ensures
    c.least-container.ensures)
    c.mark_plain-plain.ensures c.mark_beside-maxima.ensures c.mark_beside-starts.ensures c.mark_beside-ends.ensures
    c.least.ensures c.least-2.ensures c.least-3.ensures c.least-4.ensures
