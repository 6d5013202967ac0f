-- The rounds: after k turns the cells are those of k rounds, and each turn lowers the number of unfrozen items.
-- Assumes nothing.
use mathlib.Core.Path.{subst}
use Prim.Native.Nat.{◌<◌}
use native.Mathlib.Omega.{arith}
use Rattle.flex_rounds.proofs.Loop.{running_none, running_next, running_few, running_less}
use Rattle.flex_rounds.proofs.line.run_rounds.Goals as goal

pub loop-s-init : goal.loop-s-init
loop-s-init c = (running_none, c.requires.1)

pub overflow_add-rounds : goal.overflow_add-rounds
overflow_add-rounds c = omega (arith, running_few c.loop-s.invariant.0, c.requires.0.few)

pub loop-s-smaller : goal.loop-s-smaller
loop-s-smaller c =
    let i = c.loop-s.invariant in
    running_less i.0 (subst (λ n. 0 < n) i.1.number c.loop-s-test.true) c.one_round.ensures

pub loop-s-preserved : goal.loop-s-preserved
loop-s-preserved c =
    let i = c.loop-s.invariant in
    let r = c.one_round in (
      running_next i.0 (subst (λ n. 0 < n) i.1.number c.loop-s-test.true) r.auto.frozen r.auto.targets r.ensures,
      c.sum_up-s.ensures,
    )
