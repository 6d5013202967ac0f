-- The sums of a round: those so far are of the first i cells, and a turn adds one. Assumes nothing.
use mathlib.Core.Path.{◌≡◌, refl, sym, ◌∙◌}
use mathlib.Core.Bool.{Bool, true, false, cond}
use Prim.Native.Nat.{ℕ, ◌+◌, ◌≤◌}
use native.Mathlib.Omega.{arith}
use Rattle.lists.specs.Cells.{each}
use Rattle.flex.specs.declared.Sums.{Sums}
use Rattle.flex.specs.Flex.{Cell, outer_now, factor, weight}
use Rattle.flex.specs.Steps.{Added, Summed}
use Rattle.flex_rounds.specs.Cells.{cell_at}
use Rattle.flex_table.proofs.Each.{total-none, left-none, sum_turn, left-sum, unfrozen-none, unfrozen_next}
use Rattle.flex_rounds.proofs.rounds.sum_up.Goals as goal

summed_turn : (growing : Bool) (g : ℕ → Cell) (i : ℕ) (s r : Sums) → Summed growing (each i g) s
    → Added growing (g i).item (g i).frozen (g i).target s r → Summed growing (each (i + 1) g) r
summed_turn growing g i s r p q = record {
  outer = q.outer ∙ sum_turn outer_now g i s.outer (outer_now (g i)) p.outer refl;
  factors = q.factors ∙ left-sum (λ d. factor growing d.item) g i s.factors p.factors;
  weights = q.weights ∙ left-sum (λ d. weight growing d.item) g i s.weights p.weights;
  number = q.number ∙ unfrozen_next g i s.left p.number;
}

-- the number grows by at most one
few-more : (b : Bool) (k r i : ℕ) → r ≡ cond b k (k + 1) → k ≤ i → r ≤ i + 1
few-more true k r i e h = omega arith
few-more false k r i e h = omega arith

pub loop-i-init : goal.loop-i-init
loop-i-init c =
    let a = c.args in
    let g = cell_at a.items.now a.frozen.now a.targets.now in
    let e = c.default-s.ensures in
    record {
      few = omega arith;
      summed = record {
        outer = e.0 ∙ sym (total-none outer_now g);
        factors = e.1.0 ∙ sym (left-none (λ d. factor a.growing d.item) g);
        weights = e.1.1.0 ∙ sym (left-none (λ d. weight a.growing d.item) g);
        number = e.1.1.1 ∙ sym (unfrozen-none g);
      };
    }

pub loop-i-preserved : goal.loop-i-preserved
loop-i-preserved c =
    let a = c.args in
    let l = c.loop-i in
    let g = cell_at a.items.now a.frozen.now a.targets.now in
    record {
      few = few-more (g l.i).frozen l.s.left c.add_up-s.result.left l.i c.add_up-s.ensures.number l.invariant.few;
      summed = summed_turn a.growing g l.i l.s c.add_up-s.result l.invariant.summed c.add_up-s.ensures;
    }
