-- The call for a container's lines: its numbers' marks are its checks, a refusal changes nothing, and any two results that its contract allows are equal. Assumes nothing.
use mathlib.Core.Path.{◌≡◌, sym, ap, ap₂, ◌∙◌, subst}
use mathlib.Core.List.{List, [], ◌∷◌}
use Prim.Native.Nat.{ℕ, ◌+◌, ◌≤◌, min}
use lib.ListN.{length}
use lib.Ieee.{Float}
use Rattle.checks.specs.declared.Kind.TheVariants.{Worked}
use Rattle.std.specs.declared.result.Result.TheVariants.{Ok, Err}
use Rattle.checks.specs.Domain.{code, checked, then, Verdict}
use Rattle.checks.specs.Marks.{mark, least_of, least_up_to, judged}
use Rattle.place_checks.specs.declared.numbers.CrossNumbers.{CrossNumbers}
use Rattle.checks.specs.Lists.{float_at}
use Rattle.place_checks.specs.Numbers.{cross_numbers, cross_of}
use Rattle.place_lines_call.specs.LinesCall.{cross_lines_input, LinesResult, lines_call, cross_lines_verdict, lines_result, lines_into}
use Rattle.checks.proofs.Marked.{judged_is, shaped}
use Rattle.checks.specs.declared.Refusal.{Refusal}
use Rattle.keywords.specs.declared.ContentAlignment.{ContentAlignment}
use Rattle.place_size.specs.declared.container.Cross.{Cross}
use Rattle.keywords.specs.Alignment.{content_of}
use Rattle.place_cross.specs.Lines.{Aligned}
use Rattle.checks.specs.Shapes.{shape_of}

module _ (c : CrossNumbers) (alignment : ℕ) (lines : List Float) where
  pub lines_checked : {a k w : ℕ} → length lines ≤ 1024 → a ≡ mark (code 13 alignment) 0 → k ≡ least_of (cross_numbers c) 0 → w ≡ least_up_to (λ i. least_of (float_at Worked lines i) (i + 1)) (length lines)
      → judged (min (min a k) w) ≡ checked (cross_lines_input c alignment lines) (Ok tt)
  unfolding least_of
  lines_checked h p q r = ap judged (ap₂ min (ap₂ min p q) r) ∙ judged_is (cross_lines_input c alignment lines) h

  -- the contract leaves no choice
  pub lines_one : (s o : List Float) (a b : LinesResult) → a ≡ lines_call c alignment lines s o → b ≡ lines_call c alignment lines s o → a ≡ b
  lines_one s o a b p q = p ∙ sym q

-- what the call's parts say of its result
module _ (c : CrossNumbers) (alignment : ℕ) (lines : List Float) where
  module _ (s o : List Float) where
    abbrev rooms : List ℕ
    rooms = length s ∷ length o ∷ []

    pub lines_room : shape_of (length lines ∷ []) (length s ∷ length o ∷ []) (length lines) ≡ Ok tt → (length lines ≤ length s) × (length lines ≤ length o) × (length lines ≤ 1024)
    lines_room p = let q = shaped (length lines) [] rooms p in (q.2.0, q.2.1.0, q.0)

    pub lines_shape_refused : {v : Verdict} {why : Refusal} → v ≡ shape_of (length lines ∷ []) (length s ∷ length o ∷ []) (length lines) → v ≡ Err why → lines_result (Err why) s o ≡ lines_call c alignment lines s o
    unfolding cross_lines_verdict
    lines_shape_refused p q = sym (ap (λ (x : Verdict). lines_into (then x (checked (cross_lines_input c alignment lines) (Ok tt))) c alignment lines s o) (sym p ∙ q))

    module _ {v w : Verdict} (p : v ≡ shape_of (length lines ∷ []) (length s ∷ length o ∷ []) (length lines)) (p-passed : v ≡ Ok tt) (q : w ≡ checked (cross_lines_input c alignment lines) (Ok tt)) where
      verdict_is : cross_lines_verdict c alignment lines rooms ≡ w
      unfolding cross_lines_verdict
      verdict_is = ap (λ (x : Verdict). then x (checked (cross_lines_input c alignment lines) (Ok tt))) (sym p ∙ p-passed) ∙ sym q

      pub lines_numbers_refused : {why : Refusal} → w ≡ Err why → lines_result (Err why) s o ≡ lines_call c alignment lines s o
      lines_numbers_refused h = sym (ap (λ (x : Verdict). lines_into x c alignment lines s o) (verdict_is ∙ h))

      pub lines_placed : {k : Cross} {a : ContentAlignment} {inner : Float} {s₁ o₁ : List Float} → w ≡ Ok tt → k ≡ cross_of c → a ≡ content_of alignment → Aligned k a lines s o inner s₁ o₁ → lines_result (Ok inner) s₁ o₁ ≡ lines_call c alignment lines s o
      lines_placed {k} {a} {inner} {s₁} {o₁} h e f t =
          let u = subst (λ (x : ContentAlignment). Aligned (cross_of c) x lines s o inner s₁ o₁) f (subst (λ (x : Cross). Aligned x a lines s o inner s₁ o₁) e t) in
          same u.inner_is u.sizes_are u.offsets_are ∙ sym (ap (λ (x : Verdict). lines_into x c alignment lines s o) (verdict_is ∙ h))
        where
          same : {x y : Float} {a b d f : List Float} → x ≡ y → a ≡ b → d ≡ f → lines_result (Ok x) a d ≡ lines_result (Ok y) b f
          same g h k = rw (g, h, k)
