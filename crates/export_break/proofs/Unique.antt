-- The contract of the exported balanced call leaves no choice: any two results that it allows, cells included, are equal. (Those of the other
-- two exported calls are equations.) By the same of the call inside. Assumes nothing.
use mathlib.Core.Path.{◌≡◌, sym, ap, ◌∙◌}
use mathlib.Core.List.{List}
use Prim.Native.Nat.{ℕ}
use lib.Ieee.{Float}
use Rattle.balance.specs.Calls.{BreakLent}
use Rattle.balance.proofs.Call.{no_choice}
use Rattle.export_answer.specs.declared.CAnswer.{CAnswer}
use Rattle.export_answer.specs.Crossing.{c_answer}
use Rattle.keywords.specs.Space.{space_of}
use Rattle.export_break.specs.Breaks.{kind_number, BalancedFromC}

module _ (kind : ℕ) (limit gap : Float) (minimum : ℕ) (sizes : List Float) (before : BreakLent) where
  pub one_balanced : (r s : CAnswer) (a c : BreakLent) → BalancedFromC kind limit gap minimum sizes before r a → BalancedFromC kind limit gap minimum sizes before s c → (r ≡ s) × (a ≡ c)
  one_balanced r s a c p q =
      let e = no_choice (kind_number kind) (space_of kind limit) gap minimum sizes before p.inside q.inside a c p.called q.called in
      (p.told ∙ ap c_answer e.0 ∙ sym q.told, e.1)
