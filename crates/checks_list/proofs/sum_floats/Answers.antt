-- `checks_list::sum_floats` meets its contract. The loop's invariant: the total is the sum of the items passed, each at most two lengths. Assumes nothing.
use mathlib.Core.Path.{◌≡◌, sym, ap, ap₂, ◌∙◌}
use mathlib.Core.List.{List}
use Prim.Native.Nat.{ℕ, ◌+◌, ◌<◌}
use native.Mathlib.Omega.{arith}
use lib.IntN.{ℤ, nat_abs}
use lib.ListN.{length, get_or}
use lib.Ieee.{Float, nan}
use Rattle.grid.specs.Grid.{sixty_fourths}
use Rattle.grid.specs.Values.{Length}
use Rattle.lists.specs.Cells.{sum_up_to}
use Rattle.checks.specs.Marks.{Lengths}
use Rattle.lists.proofs.UpTo.{sum-none, sum_more}
use Rattle.checks_list.proofs.sum_floats.Goals as goal
use Rattle.checks_list.proofs.sum_floats.Invariants.{outer, Inv}

next : (xs : List Float) (gap : Float) (total i : ℕ) (v g : ℤ) (r : ℕ) → Length gap → Lengths xs → i < length xs → Inv xs gap total i → v ≡ sixty_fourths (get_or xs i nan) → g ≡ sixty_fourths gap
    → r ≡ total + (nat_abs v + nat_abs g) → Inv xs gap r (i + 1)
next xs gap total i v g r lg ls h inv p q e =
    let a = (ls.each i h).small in
    let b = lg.small in
    let s = e ∙ ap₂ (λ (m n : ℕ). total + (m + n)) (ap nat_abs p) (ap nat_abs q) in
    let t = inv.bound in
    record {
      is = s ∙ ap (λ (m : ℕ). m + outer xs gap i) inv.is ∙ sym (sum_more (outer xs gap) i);
      bound = omega arith;
    }

pub to_sixtyfourths-g-requires : goal.to_sixtyfourths-g-requires
to_sixtyfourths-g-requires c = c.requires.1

pub loop-x-init : goal.loop-x-init
loop-x-init c = let a = c.args in record { is = sym (sum-none (outer a.xs.now a.gap)); bound = omega arith }

pub to_sixtyfourths-requires : goal.to_sixtyfourths-requires
to_sixtyfourths-requires c = c.requires.2.each c.loop-x.x-index (omega arith)

pub add_outer-total-requires : goal.add_outer-total-requires
add_outer-total-requires c =
    let h : c.loop-x.x-index < length c.args.xs.now = c.loop-x-test.true in
    let a = ap nat_abs c.to_sixtyfourths.ensures in
    let b = ap nat_abs c.to_sixtyfourths-g.ensures in
    let x = (c.requires.2.each c.loop-x.x-index h).small in
    (omega arith, omega arith, omega arith)

pub loop-x-preserved : goal.loop-x-preserved
loop-x-preserved c =
    next c.args.xs.now c.args.gap c.loop-x.total c.loop-x.x-index c.to_sixtyfourths.result.0 c.to_sixtyfourths-g.result.0 c.add_outer-total.result
    c.requires.1 c.requires.2 c.loop-x-test.true c.loop-x.invariant c.to_sixtyfourths.ensures c.to_sixtyfourths-g.ensures c.add_outer-total.ensures

pub returns : goal.returns
returns c =
    let a = c.args in
    let inv = c.loop-x.invariant in
    let n : c.loop-x.x-index ≡ length a.xs.now = omega arith in
    inv.is ∙ ap (sum_up_to (outer a.xs.now a.gap)) n
