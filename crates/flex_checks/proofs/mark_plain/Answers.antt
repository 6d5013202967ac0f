-- The marks of the numbers that every item has: each list is one number more. Assumes nothing.
use mathlib.Core.Path.{sym, ap, ◌∙◌}
use mathlib.Core.List.{[], ◌∷◌}
use Prim.Native.Nat.{ℕ}
use lib.ListN.{get_or}
use lib.Ieee.{nan}
use Rattle.checks.specs.Domain.{float}
use Rattle.checks.specs.declared.Kind.TheVariants.{Size, Factor}
use Rattle.flex.specs.Items.{lists_of, count}
use Rattle.flex_checks.proofs.Marked.{single, several_none, several_more}
use Rattle.flex_checks.proofs.mark_plain.Goals as goal

pub returns : goal.returns
returns c =
    let ls = lists_of c.args.items in
    let n = count ls in
    let s = λ (i : ℕ). float Factor (get_or ls.shrink i nan) in
    let g = λ (i : ℕ). float Factor (get_or ls.grow i nan) in
    let e = λ (i : ℕ). float Size (get_or ls.edges i nan) in
    let l = λ (i : ℕ). float Size (get_or ls.minimum i nan) in
    let b = λ (i : ℕ). float Size (get_or ls.base i nan) in
    let q1 = several_more s (λ i. []) n _ _ _ (c.mark_floats.ensures ∙ ap (single s) c.requires.shrink)
    (c.no_mark.ensures ∙ sym (several_none n)) c.least-m.ensures in
    let q2 = several_more g (λ i. s i ∷ []) n _ _ _ (c.mark_floats-2.ensures ∙ ap (single g) c.requires.grow) q1
    c.least-m-2.ensures in
    let q3 = several_more e (λ i. g i ∷ s i ∷ []) n _ _ _ (c.mark_floats-3.ensures ∙ ap (single e) c.requires.edges) q2
    c.least-m-3.ensures in
    let q4 = several_more l (λ i. e i ∷ g i ∷ s i ∷ []) n _ _ _
    (c.mark_floats-4.ensures ∙ ap (single l) c.requires.minimum) q3 c.least-m-4.ensures in
    several_more b (λ i. l i ∷ e i ∷ g i ∷ s i ∷ []) n _ _ _ c.mark_floats-5.ensures q4 c.least.ensures
