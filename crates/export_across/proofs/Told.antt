-- What a call inside leaves, with its answer told as it crosses, is what the exported call leaves. Assumes nothing.
use mathlib.Core.Path.{◌≡◌, ap, ◌∙◌}
use mathlib.Core.List.{List}
use Prim.Native.Nat.{ℕ}
use lib.Ieee.{Float}
use Rattle.checks.specs.Domain.{Answer}
use Rattle.place_size.specs.CrossSize.{CrossLists}
use Rattle.place_across_call.specs.AcrossCall as across
use Rattle.export_answer.specs.declared.CAnswer.{CAnswer}
use Rattle.export_answer.specs.Crossing.{c_answer}
use Rattle.export_across.specs.Placed.{c_across, across_from_c}

pub across_told : (line : Float) (reversed : ℕ) (ls : CrossLists) (k b : List ℕ) (z₀ s₀ e₀ o₀ : List Float) {r : CAnswer} {a : Answer} {z s e o : List Float} → across.across_result a z s e o ≡ across.across_call line reversed ls k b z₀ s₀ e₀ o₀ → r ≡ c_answer a
    → c_across r z s e o ≡ across_from_c (across.across_call line reversed ls k b z₀ s₀ e₀ o₀)
across_told line reversed ls k b z₀ s₀ e₀ o₀ {r} {a} {z} {s} {e} {o} q t = ap (λ (x : CAnswer). c_across x z s e o) t ∙ ap across_from_c q
