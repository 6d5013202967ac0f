-- The free space before flexing: on an accepted line the f32 sums are exact, so the difference of two lengths is the
-- definition's. Assumes nothing.
use mathlib.Core.Path.{◌≡◌, sym, ap, ap₂, ◌∙◌, subst}
use mathlib.Core.List.{List}
use Prim.Native.Nat.{◌≤◌}
use lib.ListN.{length}
use lib.IntN.{ℤ, nat_abs, ◌-ℤ◌}
use lib.Ieee.{Float}
use Rattle.flex.specs.declared.Item.{Item}
use mir.Syntax.{w32}
use mir.Val.{to_z, of_z, SFits}
use Rattle.grid.specs.Grid.{sixty_fourths}
use Rattle.grid.specs.Values.{Length}
use Rattle.grid.specs.Floats.{gaps, ◌⊕◌}
use Rattle.flex.specs.Accepted.{Accepted}
use Rattle.flex.specs.Flex.{total, outer, hypothetical, free_before}
use Rattle.flex.proofs.Units.{used_length, used_units, subtracted}
use Rattle.flex_rounds.proofs.line.free_before.Goals as goal

abbrev bits : ℤ → ℤ
bits z = to_z w32 (of_z w32 z)

module _ {items : List Item} {inner gap : Float} (few : length items ≤ 1024)
    (ok : Accepted inner gap items) {x y : Float} (p : x ≡ gaps gap (length items))
    (q : y ≡ total (λ it. outer it (hypothetical it)) items) where
  -- the used space that the code works out
  used_is : Length (x ⊕ y) × (sixty_fourths (x ⊕ y) ≡ used_units gap items)
  used_is =
      let r = used_length inner gap items few ok in
      let e = ap₂ (λ a b. a ⊕ b) p q in
      (subst (λ z. Length z) (sym e) r.0, ap sixty_fourths e ∙ r.1)

  both : {a b : ℤ} → a ≡ sixty_fourths inner → b ≡ sixty_fourths (x ⊕ y)
      → SFits w32 (bits a -ℤ bits b) × (bits (bits a -ℤ bits b) ≡ free_before inner gap items)
  both {a} {b} ea eb =
      subtracted a b (sixty_fourths inner) (used_units gap items) ea (eb ∙ used_is.1) ok.inner_is.small
      (subst (λ (z : ℤ). nat_abs z ≤ 16777216) used_is.1 used_is.0.small)

pub to_sixtyfourths-b-requires : goal.to_sixtyfourths-b-requires
to_sixtyfourths-b-requires c =
    (used_is c.requires.0 c.requires.1 c.sum_axis_gaps.ensures c.hypothetical_sum.ensures).0

pub overflow_sub-result : goal.overflow_sub-result
overflow_sub-result c =
    (both c.requires.0 c.requires.1 c.sum_axis_gaps.ensures c.hypothetical_sum.ensures c.to_sixtyfourths-a.ensures
    c.to_sixtyfourths-b.ensures).0

pub returns : goal.returns
returns c =
    (both c.requires.0 c.requires.1 c.sum_axis_gaps.ensures c.hypothetical_sum.ensures c.to_sixtyfourths-a.ensures
    c.to_sixtyfourths-b.ensures).1
