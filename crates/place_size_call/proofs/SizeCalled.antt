-- The call for a line's cross size: its numbers' marks are its checks, and any two answers that its contract allows are equal. Assumes nothing.
use mathlib.Core.Path.{◌≡◌, sym, ap, ap₂, ◌∙◌}
use mathlib.Core.List.{[], ◌∷◌}
use Prim.Native.Nat.{ℕ, ◌+◌, min}
use lib.ListN.{length}
use lib.Ieee.{Float}
use Rattle.std.specs.declared.result.Result.TheVariants.{Ok, Err}
use Rattle.checks.specs.declared.Refusal.{Refusal}
use Rattle.checks.specs.Domain.{Verdict, checked, then}
use Rattle.checks.specs.Marks.{least_of, least_up_to, judged}
use Rattle.checks.specs.Shapes.{shape_of}
use Rattle.checks.proofs.Marked.{judged_is, shaped}
use Rattle.place_size.specs.declared.container.Cross.{Cross}
use Rattle.place_checks.specs.declared.numbers.CrossNumbers.{CrossNumbers}
use Rattle.place_size.specs.CrossSize.{CrossLists, count, cross_line_size}
use Rattle.place_size.specs.Parts.{CrossOneLength}
use Rattle.place_checks.specs.Numbers.{cross_of, sizing_numbers, cross_numbers_at, item_lengths}
use Rattle.place_size_call.specs.SizeCall.{SizeAnswer, size_input, size_verdict, size_into, size_call}

-- a passed shape: the lists are even
pub size_even : (ls : CrossLists) → Ok tt ≡ shape_of (item_lengths ls) [] (count ls) → CrossOneLength ls
size_even ls e =
    let q = shaped (count ls) (length ls.minimum ∷ length ls.maximum ∷ length ls.capped ∷ length ls.edges ∷ length ls.start ∷ length ls.end ∷ length ls.auto_start ∷ length ls.auto_end ∷ []) [] (sym e) in
    record {
      few = q.0;
      minimum = q.1.0;
      maximum = q.1.1.0;
      capped = q.1.1.1.0;
      edges = q.1.1.1.1.0;
      start = q.1.1.1.1.1.0;
      end = q.1.1.1.1.1.1.0;
      auto_start = q.1.1.1.1.1.1.1.0;
      auto_end = q.1.1.1.1.1.1.1.1.0;
    }

module _ (c : CrossNumbers) (ls : CrossLists) where
  pub size_checked : {a k m : ℕ} {v : Verdict} → CrossOneLength ls → a ≡ least_of (sizing_numbers c) 0 → k ≡ least_up_to (λ i. least_of (cross_numbers_at ls i) (i + 1)) (count ls) → m ≡ min a k → v ≡ judged m
      → v ≡ checked (size_input c ls) (Ok tt)
  size_checked e p q r h = h ∙ ap judged (r ∙ ap₂ min p q) ∙ judged_is (size_input c ls) e.few

  -- refused by its shape, or by its numbers
  pub size_shape_refused : {v : Verdict} {why : Refusal} → v ≡ shape_of (item_lengths ls) [] (count ls) → v ≡ Err why → Err why ≡ size_call c ls
  unfolding size_verdict
  size_shape_refused p q = sym (ap (λ (x : Verdict). size_into (then x (checked (size_input c ls) (Ok tt))) c ls) (sym p ∙ q))

  module _ {v w : Verdict} (p : v ≡ shape_of (item_lengths ls) [] (count ls)) (p-passed : v ≡ Ok tt) (q : w ≡ checked (size_input c ls) (Ok tt)) where
    verdict_is : size_verdict c ls ≡ w
    unfolding size_verdict
    verdict_is = ap (λ (x : Verdict). then x (checked (size_input c ls) (Ok tt))) (sym p ∙ p-passed) ∙ sym q

    pub size_numbers_refused : {why : Refusal} → w ≡ Err why → Err why ≡ size_call c ls
    size_numbers_refused h = sym (ap (λ (x : Verdict). size_into x c ls) (verdict_is ∙ h))

    pub size_sized : {k : Cross} {x : Float} → w ≡ Ok tt → k ≡ cross_of c → x ≡ cross_line_size k ls → Ok x ≡ size_call c ls
    size_sized h e f = ap Ok (f ∙ ap (λ (k : Cross). cross_line_size k ls) e) ∙ sym (ap (λ (x : Verdict). size_into x c ls) (verdict_is ∙ h))

  -- the contract leaves no choice
  pub size_one : (a b : SizeAnswer) → a ≡ size_call c ls → b ≡ size_call c ls → a ≡ b
  size_one a b p q = p ∙ sym q
