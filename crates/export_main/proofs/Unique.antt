-- The contract of the exported call leaves no choice: any two results that it allows, cells included, are equal. It is an equation, and its right side the
-- call's inputs alone. Assumes nothing.
use mathlib.Core.Path.{◌≡◌, sym, ap, ◌∙◌}
use mathlib.Core.List.{List}
use lib.Ieee.{Float}
use Rattle.place_main.specs.MainCall.{MainResult}
use Rattle.export_answer.specs.declared.CAnswer.{CAnswer}
use Rattle.export_main.specs.Placed.{CMain, c_main, main_from_c}

pub one_main : (m : MainResult) (r r' : CAnswer) (o o' s s' e e' : List Float) → c_main r o s e ≡ main_from_c m → c_main r' o' s' e' ≡ main_from_c m → (r ≡ r') × (o ≡ o') × (s ≡ s') × (e ≡ e')
one_main m r r' o o' s s' e e' p q =
    let d = p ∙ sym q in
    (ap (λ (x : CMain). x.answer) d, ap (λ (x : CMain). x.offsets) d, ap (λ (x : CMain). x.starts) d, ap (λ (x : CMain). x.ends) d)
