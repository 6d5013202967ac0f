-- The sum of check 6: the total so far is that of the items so far, and far below what a u64 holds. Assumes nothing.
use mathlib.Core.Path.{◌≡◌, refl, sym, ap₂, ◌∙◌, subst}
use Prim.Native.Nat.{◌+◌, ◌≤◌, zero-le}
use native.Mathlib.Omega.{arith}
use lib.IntN.{ℤ, nat_abs}
use Rattle.flex.specs.declared.Item.{Item}
use Rattle.flex.specs.Flex.{outer_units, outer_sum}
use Rattle.flex.specs.Accepted.{Measured}
use Rattle.flex.proofs.Units.{outer_small}
use Rattle.flex_table.proofs.Each.{outer_next}
use Rattle.flex_table.proofs.Items.{every_at}
use Rattle.flex_table.proofs.sum.outer_sum.Goals as goal

-- one outer size
size_small : (it : Item) (z : ℤ) → z ≡ outer_units it → Measured it → nat_abs z ≤ 33554432
size_small it z e m = subst (λ x. nat_abs x ≤ 33554432) (sym e) (outer_small it m)

pub loop-it-init : goal.loop-it-init
unfolding outer_sum
loop-it-init c = record { small = zero-le; is = refl }

pub add_outer-total-requires : goal.add_outer-total-requires
add_outer-total-requires c =
    let m = every_at c.args.items.now c.loop-it.it-index c.requires.2 c.loop-it-test.true in (
      omega (arith, c.loop-it.invariant.small, c.requires.0),
      omega (arith, size_small _ _ c.outer_units.ensures m),
      subst (λ z. nat_abs z ≤ 16777216) (sym c.to_sixtyfourths-g.ensures) c.requires.1.small,
    )

pub loop-it-preserved : goal.loop-it-preserved
loop-it-preserved c =
    let l = c.loop-it in
    let m = every_at c.args.items.now l.it-index c.requires.2 c.loop-it-test.true in
    let small = subst (λ z. nat_abs z ≤ 16777216) (sym c.to_sixtyfourths-g.ensures) c.requires.1.small in
    record {
      small = omega (arith, l.invariant.small, c.add_outer-total.ensures, size_small _ _ c.outer_units.ensures m, small);
      is =
          c.add_outer-total.ensures
          ∙ ap₂ (λ a b. a + b) l.invariant.is
          (ap₂ (λ a b. nat_abs a + nat_abs b) c.outer_units.ensures c.to_sixtyfourths-g.ensures)
          ∙ sym (outer_next c.args.gap c.args.items.now l.it-index c.loop-it-test.true);
    }
