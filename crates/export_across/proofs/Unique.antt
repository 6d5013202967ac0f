-- The contract of the exported call leaves no choice: any two results that it allows, cells included, are equal. It is an equation, and its right side the
-- call's inputs alone. Assumes nothing.
use mathlib.Core.Path.{◌≡◌, sym, ap, ◌∙◌}
use mathlib.Core.List.{List}
use lib.Ieee.{Float}
use Rattle.place_across_call.specs.AcrossCall.{AcrossResult}
use Rattle.export_answer.specs.declared.CAnswer.{CAnswer}
use Rattle.export_across.specs.Placed.{CAcross, c_across, across_from_c}

pub one_across : (a : AcrossResult) (r r' : CAnswer) (z z' s s' e e' o o' : List Float) → c_across r z s e o ≡ across_from_c a → c_across r' z' s' e' o' ≡ across_from_c a → (r ≡ r') × (z ≡ z') × (s ≡ s') × (e ≡ e') × (o ≡ o')
one_across a r r' z z' s s' e e' o o' p q =
    let d = p ∙ sym q in
    (ap (λ (x : CAcross). x.answer) d, ap (λ (x : CAcross). x.sizes) d, ap (λ (x : CAcross). x.starts) d, ap (λ (x : CAcross). x.ends) d, ap (λ (x : CAcross). x.offsets) d)
