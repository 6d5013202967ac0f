-- The call for the main axis: its numbers' marks are its checks, a refusal changes nothing, and any two results that its contract allows are equal. Assumes nothing.
use mathlib.Core.Path.{subst, ◌≡◌, sym, ap, ap₂, ◌∙◌}
use mathlib.Core.List.{List, ◌++◌, [], ◌∷◌}
use Prim.Native.Nat.{ℕ, ◌+◌, min, ◌≤◌}
use lib.ListN.{length}
use lib.Ieee.{Float}
use Rattle.std.specs.declared.result.Result.TheVariants.{Ok, Err}
use Rattle.checks.specs.Domain.{checked, then, Verdict, Answer, done}
use Rattle.checks.specs.Marks.{least_of, least_up_to, judged, as_answer}
use Rattle.place_main.specs.MainAxis.{LineLists, count, Spaced}
use Rattle.place_main.specs.Parts.{MainOneLength}
use Rattle.checks.specs.declared.Kind.TheVariants.{Margin, Worked}
use Rattle.checks.specs.Lists.{float_at, beside_at}
use Rattle.place_main.specs.MainCall.{main_container_numbers, main_input, MainResult, main_call, lengths, main_verdict, main_result, main_into}
use Rattle.checks.proofs.Marked.{items_append, judged_is, shaped}
use mathlib.Core.Bool.{Bool, not}
use lib.Dec.{eqb}
use Rattle.checks.specs.declared.Refusal.{Refusal}
use Rattle.keywords.specs.declared.ContentAlignment.{ContentAlignment}
use Rattle.keywords.specs.Alignment.{content_of}
use Rattle.checks.specs.Shapes.{shape_of}

module _ (inner gap : Float) (justify reversed : ℕ) (l : LineLists) where
  -- the marks of the container, the targets and each side's margins
  pub main_checked : {c t s e : ℕ} → MainOneLength l → c ≡ least_of (main_container_numbers inner gap justify reversed) 0
      → t ≡ least_up_to (λ i. least_of (float_at Worked l.targets i) (i + 1)) (count l)
      → s ≡ least_up_to (λ i. least_of (beside_at Margin 0 l.start l.auto_start i) (i + 1)) (length l.start)
      → e ≡ least_up_to (λ i. least_of (beside_at Margin 0 l.end l.auto_end i) (i + 1)) (length l.end)
      → judged (min c (min t (min s e))) ≡ checked (main_input inner gap justify reversed l) (Ok tt)
  main_checked v p q r u =
      let n = count l in
      let starts = r ∙ ap (least_up_to (λ i. least_of (beside_at Margin 0 l.start l.auto_start i) (i + 1))) v.start in
      let ends = u ∙ ap (least_up_to (λ i. least_of (beside_at Margin 0 l.end l.auto_end i) (i + 1))) v.end in
      ap judged
      (ap₂ min p
      (ap₂ min q (ap₂ min starts ends ∙ sym (items_append (λ i. beside_at Margin 0 l.start l.auto_start i) (λ i. beside_at Margin 0 l.end l.auto_end i) n))
      ∙ sym (items_append (λ i. float_at Worked l.targets i) (λ i. beside_at Margin 0 l.start l.auto_start i ++ beside_at Margin 0 l.end l.auto_end i) n)))
      ∙ judged_is (main_input inner gap justify reversed l) v.few

  -- the contract leaves no choice
  pub main_one : (o s e : List Float) (a b : MainResult) → a ≡ main_call inner gap justify reversed l o s e → b ≡ main_call inner gap justify reversed l o s e → a ≡ b
  main_one o s e a b p q = p ∙ sym q

-- what the call's parts say of its result
pub content_same : {inner gap : Float} {a b : ContentAlignment} {reversed : Bool} {l : LineLists} {o s e o₁ s₁ e₁ : List Float} → a ≡ b → Spaced inner gap a reversed l o s e o₁ s₁ e₁ → Spaced inner gap b reversed l o s e o₁ s₁ e₁
content_same {inner} {gap} {reversed = reversed} {l} {o} {s} {e} {o₁} {s₁} {e₁} p t = subst (λ (a : ContentAlignment). Spaced inner gap a reversed l o s e o₁ s₁ e₁) p t

module _ (inner gap : Float) (justify reversed : ℕ) (l : LineLists) where
  module _ (o s e : List Float) where
    abbrev rooms : List ℕ
    rooms = length o ∷ length s ∷ length e ∷ []

    -- a passed shape: the lists are even, and there is room
    pub main_even : shape_of (lengths l) (length o ∷ length s ∷ length e ∷ []) (count l) ≡ Ok tt → MainOneLength l × ((count l ≤ length o) × (count l ≤ length s) × (count l ≤ length e))
    main_even p =
        let q = shaped (count l) (length l.start ∷ length l.end ∷ length l.auto_start ∷ length l.auto_end ∷ []) rooms p in
        (record { few = q.0; start = q.1.0; end = q.1.1.0; auto_start = q.1.1.1.0; auto_end = q.1.1.1.1.0 }, (q.2.0, q.2.1.0, q.2.1.1.0))

    -- refused by its shape, or by its numbers
    pub main_shape_refused : {v : Verdict} {why : Refusal} {r : Answer} → v ≡ shape_of (lengths l) (length o ∷ length s ∷ length e ∷ []) (count l) → v ≡ Err why → r ≡ as_answer v 0 0
        → main_result r o s e ≡ main_call inner gap justify reversed l o s e
    unfolding main_verdict
    main_shape_refused p q a =
        ap (λ (x : Answer). main_result x o s e) (a ∙ ap (λ (x : Verdict). as_answer x 0 0) q)
        ∙ sym (ap (λ (x : Verdict). main_into (then x (checked (main_input inner gap justify reversed l) (Ok tt))) inner gap justify reversed l o s e) (sym p ∙ q))

    module _ {v w : Verdict} (p : v ≡ shape_of (lengths l) (length o ∷ length s ∷ length e ∷ []) (count l)) (p-passed : v ≡ Ok tt) (q : w ≡ checked (main_input inner gap justify reversed l) (Ok tt)) where
      verdict_is : main_verdict inner gap justify reversed l rooms ≡ w
      unfolding main_verdict
      verdict_is = ap (λ (x : Verdict). then x (checked (main_input inner gap justify reversed l) (Ok tt))) (sym p ∙ p-passed) ∙ sym q

      pub main_numbers_refused : {why : Refusal} {r : Answer} → w ≡ Err why → r ≡ as_answer w 0 0 → main_result r o s e ≡ main_call inner gap justify reversed l o s e
      main_numbers_refused h a =
          ap (λ (x : Answer). main_result x o s e) (a ∙ ap (λ (x : Verdict). as_answer x 0 0) h)
          ∙ sym (ap (λ (x : Verdict). main_into x inner gap justify reversed l o s e) (verdict_is ∙ h))

      pub main_placed : {o₁ s₁ e₁ : List Float} → w ≡ Ok tt → Spaced inner gap (content_of justify) (not (eqb reversed 0)) l o s e o₁ s₁ e₁ → main_result (done 0 0) o₁ s₁ e₁ ≡ main_call inner gap justify reversed l o s e
      main_placed h t = cc_result t.offsets_are t.starts_are t.ends_are ∙ sym (ap (λ (x : Verdict). main_into x inner gap justify reversed l o s e) (verdict_is ∙ h))
        where
          cc_result : {a b c x y z : List Float} → a ≡ x → b ≡ y → c ≡ z → main_result (done 0 0) a b c ≡ main_result (done 0 0) x y z
          cc_result f g k = rw (f, g, k)
