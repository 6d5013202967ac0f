-- One field more is one store more. Assumes nothing.
use Rattle.std.proofs.Common.{ap, ◌∙◌, arith, set}
use native.Mathlib.Nat.{suc-mul}
use Rattle.pass_items.proofs.Stored.{set_next}
use Rattle.pass_items.proofs.put_fields.Goals as goal

pub loop-field-preserved : goal.loop-field-preserved
loop-field-preserved g c =
    let a = c.args in
    let l = c.loop-field in
    let v = c.field-item.result in (
      omega (arith, l.invariant.0, suc-mul l.field-index a.m),
      ap (λ j. set l.cells j v) l.invariant.0 ∙ set_next a.m l.cells a.cells.now a.fields.now l.field-index a.i v c.loop-field-test.true l.invariant.1 c.field-item.is,
    )
