-- The contracts of the exported calls that flex leave no choice: any two results that one allows, cells included, are equal. By the same of the
-- calls inside. Assumes nothing.
use mathlib.Core.Path.{◌≡◌, sym, ap, ◌∙◌}
use mathlib.Core.List.{List}
use Prim.Native.Nat.{ℕ}
use lib.IntN.{ℤ}
use lib.Ieee.{Float}
use Rattle.flex.specs.Items.{Lists}
use Rattle.flex_line_call.specs.Call.{FlexAnswer, values_of}
use Rattle.flex_line_call.proofs.Determined.{line_determined}
use Rattle.flex_lines_call.proofs.Independent.{lines_determined}
use Rattle.export_answer.specs.declared.CAnswer.{CAnswer}
use Rattle.export_answer.specs.Crossing.{c_answer}
use Rattle.export_flex.specs.declared.CFlexed.{CFlexed}
use Rattle.export_flex.specs.Flexed.{c_flexed, FlexedFromC, FlexedLinesFromC}

pub one_line : (inner gap : Float) (ls : Lists) (old : List Float) (r s : CFlexed) (a b : List Float) → FlexedFromC inner gap ls r old a → FlexedFromC inner gap ls s old b → (r ≡ s) × (a ≡ b)
one_line inner gap ls old r s a b p q =
    let d = line_determined _ _ ls old p.inside q.inside a b p.flexed q.flexed in
    (p.told ∙ ap (λ (x : FlexAnswer). c_flexed (values_of x)) d.0 ∙ sym q.told, d.1)

pub one_by_line : (inner gap : Float) (counts : List ℕ) (ls : Lists) (targets₀ : List Float) (free₀ : List ℤ) (rounds₀ : List ℕ) (r s : CAnswer) (a b : List Float) (f g : List ℤ) (m n : List ℕ)
    → FlexedLinesFromC inner gap counts ls r targets₀ free₀ rounds₀ a f m → FlexedLinesFromC inner gap counts ls s targets₀ free₀ rounds₀ b g n → (r ≡ s) × (a ≡ b) × (f ≡ g) × (m ≡ n)
one_by_line inner gap counts ls targets₀ free₀ rounds₀ r s a b f g m n p q =
    let d = lines_determined inner gap counts ls targets₀ free₀ rounds₀ p.inside q.inside a b f g m n p.flexed q.flexed in
    (p.told ∙ ap c_answer d.0 ∙ sym q.told, d.1, d.2, d.3)
