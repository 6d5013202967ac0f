-- The counts, one after another: those so far are positive or not, and have a sum. Assumes nothing.
use mathlib.Core.Path.{◌≡◌, refl, sym, ◌∙◌}
use mathlib.Core.Bool.{Bool, true, false, ◌&&◌}
use native.Mathlib.Omega.{arith}
use Rattle.flex_lines.proofs.Counting.{counting_none, counting_next}
use Rattle.flex_lines.proofs.is_division.Goals as goal
use Rattle.flex_lines.proofs.is_division.Goals.{then-positive, else-positive}

both : (a b : Bool) → a ≡ true → b ≡ (b && a)
both a true e = sym e
both a false e = refl

neither : (a b : Bool) → a ≡ false → a ≡ (b && a)
neither a true e = refl
neither a false e = e

pub loop-count-init : goal.loop-count-init
loop-count-init c = counting_none c.args.counts.now

pub loop-count-preserved : goal.loop-count-preserved
loop-count-preserved c =
    let l = c.loop-count in
    counting_next c.args.counts.now l.positive l.sum l.count-index _ c.if-positive.positive c.loop-count-test.true refl
    (omega (arith, c.type_inv.counts l.count-index))
    (elim c.if-positive.branch [
      | then-positive w ↦ w.positive-is ∙ both l.positive _ w.if-positive.true
      | else-positive w ↦ w.positive-is ∙ neither l.positive _ w.if-positive.false
    ])
    l.invariant
