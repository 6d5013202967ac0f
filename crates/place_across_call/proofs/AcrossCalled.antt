-- The call for the items across a line: its numbers' marks are its checks, a refusal changes nothing, and any two results that its contract allows are equal. Assumes nothing.
use mathlib.Core.Path.{◌≡◌, sym, ap, ap₂, ◌∙◌}
use mathlib.Core.List.{List, [], ◌∷◌}
use Prim.Native.Nat.{ℕ, ◌+◌, min}
use lib.ListN.{length}
use lib.Ieee.{Float}
use Rattle.checks.specs.declared.Kind.TheVariants.{Worked}
use Rattle.std.specs.declared.result.Result.TheVariants.{Ok, Err}
use Rattle.checks.specs.Domain.{Verdict, float, code, checked, then, Answer, done}
use Rattle.checks.specs.Marks.{mark, least_of, least_up_to, judged, as_answer}
use Rattle.checks.specs.Shapes.{shape_of}
use Rattle.checks.proofs.Marked.{container-two, judged_is, shaped}
use Rattle.place_size.specs.CrossSize.{CrossLists, count}
use Rattle.place_size.specs.Parts.{CrossOneLength}
use Rattle.place_cross.specs.Parts.{SameLengths, AcrossRoom}
use Rattle.place_checks.specs.Numbers.{across_numbers_at}
use Rattle.place_across_call.specs.AcrossCall.{across_input, lengths, AcrossResult, across_call, across_verdict, across_result, across_into}
use mathlib.Core.Bool.{not}
use lib.Dec.{eqb}
use Rattle.checks.specs.declared.Refusal.{Refusal}
use Rattle.place_cross.specs.CrossAxis.{Across}

-- the lengths of the lists after the first
abbrev later : CrossLists → List ℕ → List ℕ → List ℕ
later ls alignment auto-size =
    length ls.minimum ∷ length ls.maximum ∷ length ls.capped ∷ length ls.edges ∷ length ls.start ∷ length ls.end ∷ length ls.auto_start ∷ length ls.auto_end ∷ length alignment ∷ length auto-size ∷ []

module _ (line : Float) (reversed : ℕ) (ls : CrossLists) (alignment auto-size : List ℕ) where
  pub across_checked : {x y a k m : ℕ} {v : Verdict} → SameLengths ls alignment auto-size → x ≡ mark (float Worked line) 0 → y ≡ mark (code 1 reversed) 0 → a ≡ min x y
      → k ≡ least_up_to (λ i. least_of (across_numbers_at ls alignment auto-size i) (i + 1)) (count ls) → m ≡ min a k → v ≡ judged m → v ≡ checked (across_input line reversed ls alignment auto-size) (Ok tt)
  across_checked e px py pa pk pm pv = pv ∙ ap judged (pm ∙ ap₂ min (pa ∙ ap₂ min px py ∙ container-two (float Worked line) (code 1 reversed)) pk) ∙ judged_is (across_input line reversed ls alignment auto-size) e.even.few

  -- a passed shape: the lists are even
  pub across_even : (z s e o : List Float) → Ok tt ≡ shape_of (lengths ls alignment auto-size) (length z ∷ length s ∷ length e ∷ length o ∷ []) (count ls) → SameLengths ls alignment auto-size
  across_even z s e o p =
      let q = shaped (count ls) (later ls alignment auto-size) (length z ∷ length s ∷ length e ∷ length o ∷ []) (sym p) in
      let l = q.1 in
      let even : CrossOneLength ls = record {
        few = q.0;
        minimum = l.0;
        maximum = l.1.0;
        capped = l.1.1.0;
        edges = l.1.1.1.0;
        start = l.1.1.1.1.0;
        end = l.1.1.1.1.1.0;
        auto_start = l.1.1.1.1.1.1.0;
        auto_end = l.1.1.1.1.1.1.1.0;
      } in
      record { even = even; alignment_length = l.1.1.1.1.1.1.1.1.0; auto_length = l.1.1.1.1.1.1.1.1.1.0 }

  -- the contract leaves no choice
  pub across_one : (z s e o : List Float) (a b : AcrossResult) → a ≡ across_call line reversed ls alignment auto-size z s e o → b ≡ across_call line reversed ls alignment auto-size z s e o → a ≡ b
  across_one z s e o a b p q = p ∙ sym q

-- what the call's parts say of its result
module _ (line : Float) (reversed : ℕ) (ls : CrossLists) (alignment auto-size : List ℕ) where
  module _ (z s e o : List Float) where
    abbrev rooms : List ℕ
    rooms = length z ∷ length s ∷ length e ∷ length o ∷ []

    abbrev pub Shaped : Verdict → Type 0
    Shaped v = v ≡ shape_of (lengths ls alignment auto-size) (length z ∷ length s ∷ length e ∷ length o ∷ []) (count ls)

    -- a passed shape: the lists are even, and there is room
    pub across_lengths : {v : Verdict} → Shaped v → v ≡ Ok tt → SameLengths ls alignment auto-size × AcrossRoom (count ls) z s e o
    across_lengths p h =
        let room = (shaped (count ls) (later ls alignment auto-size) rooms (sym p ∙ h)).2 in (
          across_even line reversed ls alignment auto-size z s e o (sym h ∙ p),
          record { sizes_room = room.0; starts_room = room.1.0; ends_room = room.1.1.0; offsets_room = room.1.1.1.0 },
        )

    -- refused by its shape, or by its numbers
    pub across_shape_refused : {v : Verdict} {why : Refusal} {r : Answer} → Shaped v → v ≡ Err why → r ≡ as_answer v 0 0 → across_result r z s e o ≡ across_call line reversed ls alignment auto-size z s e o
    unfolding across_verdict
    across_shape_refused p q a =
        ap (λ (x : Answer). across_result x z s e o) (a ∙ ap (λ (x : Verdict). as_answer x 0 0) q)
        ∙ sym (ap (λ (x : Verdict). across_into (then x (checked (across_input line reversed ls alignment auto-size) (Ok tt))) line reversed ls alignment auto-size z s e o) (sym p ∙ q))

    module _ {v w : Verdict} (p : Shaped v) (p-passed : v ≡ Ok tt) (q : w ≡ checked (across_input line reversed ls alignment auto-size) (Ok tt)) where
      verdict_is : across_verdict line reversed ls alignment auto-size rooms ≡ w
      unfolding across_verdict
      verdict_is = ap (λ (x : Verdict). then x (checked (across_input line reversed ls alignment auto-size) (Ok tt))) (sym p ∙ p-passed) ∙ sym q

      pub across_numbers_refused : {why : Refusal} {r : Answer} → w ≡ Err why → r ≡ as_answer w 0 0 → across_result r z s e o ≡ across_call line reversed ls alignment auto-size z s e o
      across_numbers_refused h a =
          ap (λ (x : Answer). across_result x z s e o) (a ∙ ap (λ (x : Verdict). as_answer x 0 0) h)
          ∙ sym (ap (λ (x : Verdict). across_into x line reversed ls alignment auto-size z s e o) (verdict_is ∙ h))

      pub across_placed : {z₁ s₁ e₁ o₁ : List Float} → w ≡ Ok tt → Across line (not (eqb reversed 0)) ls alignment auto-size z s e o z₁ s₁ e₁ o₁ → across_result (done 0 0) z₁ s₁ e₁ o₁ ≡ across_call line reversed ls alignment auto-size z s e o
      across_placed h t =
          same t.sizes_are t.starts_are t.ends_are t.offsets_are
          ∙ sym (ap (λ (x : Verdict). across_into x line reversed ls alignment auto-size z s e o) (verdict_is ∙ h))
        where
          same : {a b c d w x y z : List Float} → a ≡ w → b ≡ x → c ≡ y → d ≡ z → across_result (done 0 0) a b c d ≡ across_result (done 0 0) w x y z
          same f g h k = rw (f, g, h, k)
