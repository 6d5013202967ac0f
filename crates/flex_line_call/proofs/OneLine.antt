-- The call for one line: what its checks show, and its verdict. By the laws of the checks. Assumes nothing.
use mathlib.Core.Path.{◌≡◌, refl, sym, ap, ◌∙◌, subst}
use mathlib.Core.List.{List}
use Prim.Native.Nat.{ℕ, ◌≤◌}
use lib.ListN.{length}
use lib.Ieee.{Float}
use Rattle.grid.specs.Grid.{cleaned}
use Rattle.checks.specs.Domain.{Verdict, summed, then}
use Rattle.checks.specs.Marks.{least_mark, judged, SoundInput}
use Rattle.checks.specs.declared.Refusal.{Refusal}
use Rattle.std.specs.declared.result.Result.TheVariants.{Ok, Err}
use Rattle.checks.proofs.Checks.{judged-checked, accepted, then_passed}
use Rattle.flex.specs.declared.Item.{Item}
use Rattle.flex.specs.Flex.{outer_sum}
use Rattle.flex.specs.Items.{Lists, count, items_of}
use Rattle.flex.specs.Accepted.{Even}
use Rattle.flex_checks.specs.Input.{flex_shape, input_of}
use Rattle.flex_checks.proofs.Accept.{even_of, refused_then, passed_then}
use Rattle.flex_line_call.specs.Call.{FlexAnswer, line_verdict, LineAnswered, FlexedLine}
use Rattle.flex_line_call.specs.Parts.{LineSummed}

-- ---- the verdict, from checks 1 to 5 and check 6

module _ (inner gap : Float) (ls : Lists) where
  abbrev marks : Verdict
  marks = judged (least_mark (input_of inner gap ls))

  -- where checks 1 to 5 pass
  pub shown : (room : ℕ) → then (flex_shape ls room) marks ≡ Ok tt → Even ls × (count ls ≤ room) × SoundInput (input_of inner gap ls)
  shown room h =
      let p = then_passed (flex_shape ls room) marks h in
      let e = even_of ls room p.0 in
      (e.0, e.1, (accepted (input_of inner gap ls) (Ok tt) (sym (judged-checked (input_of inner gap ls) e.0.few (Ok tt)) ∙ ap (λ (v : Verdict). then v (Ok tt)) p.1)).0)

  pub refused_so : (room : ℕ) (why : Refusal) → then (flex_shape ls room) marks ≡ Err why → line_verdict inner gap ls room ≡ Err why
  unfolding line_verdict
  refused_so room why h = refused_then (flex_shape ls room) (input_of inner gap ls) (summed (outer_sum (cleaned gap) (items_of ls))) why (λ e. (even_of ls room e).0.few) h

  pub passed_so : (room : ℕ) → then (flex_shape ls room) marks ≡ Ok tt → line_verdict inner gap ls room ≡ summed (outer_sum (cleaned gap) (items_of ls))
  unfolding line_verdict
  passed_so room h = passed_then (flex_shape ls room) (input_of inner gap ls) (summed (outer_sum (cleaned gap) (items_of ls))) (λ e. (even_of ls room e).0.few) h

-- ---- the answer

-- where checks 1 to 5 refuse
pub answered_refused : (inner gap : Float) (ls : Lists) (old : List Float) (why : Refusal) (r : FlexAnswer) → then (flex_shape ls (length old)) (marks inner gap ls) ≡ Err why → r ≡ Err why → FlexedLine inner gap ls r old old
answered_refused inner gap ls old why r h e = subst (λ (r : FlexAnswer). FlexedLine inner gap ls r old old) (sym e) (refused_so inner gap ls (length old) why h, refl)

-- and where they pass
pub answered_passed : (inner gap : Float) (ls : Lists) (old new : List Float) (r : FlexAnswer) → then (flex_shape ls (length old)) (marks inner gap ls) ≡ Ok tt → LineSummed inner gap ls r old new → FlexedLine inner gap ls r old new
answered_passed inner gap ls old new r h a = subst (λ (v : Verdict). LineAnswered v (cleaned inner) (cleaned gap) (items_of ls) r old new) (sym (passed_so inner gap ls (length old) h)) a

-- as it is read

pub answered_as : (i i' g g' : Float) (l l' : List Item) → i ≡ i' → g ≡ g' → l ≡ l' → (r : FlexAnswer) (old new : List Float) → LineAnswered (summed (outer_sum g l)) i g l r old new → LineAnswered (summed (outer_sum g' l')) i' g' l' r old new
answered_as i i' g g' l l' p q e r old new a =
    subst (λ (y : List Item). LineAnswered (summed (outer_sum g' y)) i' g' y r old new) e
    (subst (λ (h : Float). LineAnswered (summed (outer_sum h l)) i' h l r old new) q
    (subst (λ (j : Float). LineAnswered (summed (outer_sum g l)) j g l r old new) p a))
