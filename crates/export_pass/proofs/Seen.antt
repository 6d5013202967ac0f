-- What the pass says of the first 1,025 items is what it says of them all: of up to 1,025 they are all, and of more it refuses as of 1,025. Assumes nothing.
use mathlib.Core.Path.{◌≡◌, refl, sym, ◌∙◌, ap, subst}
use Prim.Native.Nat.{ℕ, ◌*◌, ◌<◌, min}
use native.Mathlib.Nat.{min-le_left, min-eq_left, le_refl}
use native.Mathlib.Omega.{arith}
use mathlib.Core.Bool.{Bool, true, false, not}
use mathlib.Core.List.{List, ◌++◌}
use lib.Dec.{T, leb, leb→le, nleb→lt}
use lib.ListN.{length, take}
use lib.Seq.{take_all}
use lib.Ieee.{Float}
use borrow.Author.Tests.{lt-ltb}
use Rattle.pass_container.specs.declared.Container.{Container}
use Rattle.pass_container.specs.Container.{break_mode}
use Rattle.checks.specs.Domain.{or_else, then, checked, summed}
use Rattle.checks.specs.declared.Refusal.TheVariants.{TooManyItems, TooLittleRoom}
use Rattle.std.specs.declared.result.Result.TheVariants.{Ok, Err}
use Rattle.checks.proofs.Verdicts.{not_both}
use Rattle.pass_checks.specs.Checks.{pass_room, pass_verdict, pass_input, pass_sum}
use Rattle.pass.specs.Laid.{PassLent}
use Rattle.pass.specs.Pass.{PassAnswer, PassCall, lent_verdict}
use Rattle.pass_items.specs.declared.Item.{Item}
use Rattle.pass_items.specs.Items.{numbers_of, codes_of}
use Rattle.pass_items.proofs.Laid.{taken_numbers, taken_codes}
use Rattle.export_pass.specs.declared.CPassed.{CPassed}
use Rattle.export_pass.specs.Passed.{PassedFromC}

-- more than 1,024 items are refused whatever the lists hold
many : (c : Container) (n : ℕ) (x : List Float) (codes : List ℕ) (room : Bool) → 1024 < n → pass_verdict c n x codes room ≡ Err TooManyItems
unfolding pass_verdict
many c n x codes room h = ap (λ (t : Bool). then (or_else t (Err TooManyItems) (or_else (not room) (Err TooLittleRoom) (Ok tt))) (checked (pass_input c n x codes) (summed (pass_sum c n x codes)))) (lt-ltb 1024 n h)

too_many : (c : Container) (n : ℕ) (x : List Float) (codes : List ℕ) (b : PassLent) → 1024 < n → lent_verdict c n x codes b ≡ Err TooManyItems
too_many c n x codes b h =
    many c n x codes (pass_room n (break_mode c) (length x) (length codes) (length b.placed) (length b.lines) (length b.counts) (length b.rounds) (length b.free) (length b.work) (length b.sums)) h

-- so what is said of so many is said of any other so many
as_many : (c : Container) (n n' : ℕ) (x x' : List Float) (codes codes' : List ℕ) (before after : PassLent) (r : PassAnswer) → 1024 < n → 1024 < n' → PassCall c n x codes before r after → PassCall c n' x' codes' before r after
as_many c n n' x x' codes codes' before after (Err why) h h' p = (too_many c n' x' codes' before h' ∙ sym (too_many c n x codes before h) ∙ p.0, p.1)
as_many c n n' x x' codes codes' before after (Ok l) h h' p = absurd (not_both p.0 (too_many c n x codes before h))

module _ (c : Container) (xs : List Item) (before : PassLent) (r : CPassed) (after : PassLent) where
  abbrev m : ℕ
  m = min (length xs) 1025

  abbrev Seen : ℕ → List Float → List ℕ → Type 0
  Seen n numbers codes = PassedFromC c n numbers codes before r after

  all : (t : Bool) → leb (length xs) 1025 ≡ t → Seen m (numbers_of (take m xs)) (codes_of (take m xs)) → Seen (length xs) (numbers_of xs) (codes_of xs)
  all true e h = subst (λ (ys : List Item). Seen (length xs) (numbers_of ys) (codes_of ys)) (take_all (length xs) xs (le_refl (length xs))) (subst (λ (k : ℕ). Seen k (numbers_of (take k xs)) (codes_of (take k xs))) (min-eq_left (leb→le (length xs) 1025 (subst T (sym e) tt))) h)
  all false e h = record { inside = h.inside; told = h.told; passed = as_many c m (length xs) (numbers_of (take m xs)) (numbers_of xs) (codes_of (take m xs)) (codes_of xs) before after h.inside (omega (arith, more)) (omega (arith, more)) h.passed }
    where
      more : 1025 < length xs
      more = nleb→lt (length xs) 1025 (subst (λ (t : Bool). T (not t)) (sym e) tt)

  pub seen : (rest : List Float) (rest' : List ℕ) → Seen m (take (14 * m) (numbers_of (take m xs) ++ rest)) (take (8 * m) (codes_of (take m xs) ++ rest')) → Seen (length xs) (numbers_of xs) (codes_of xs)
  seen rest rest' h =
      all (leb (length xs) 1025) refl (subst (Seen m (numbers_of (take m xs))) (taken_codes m xs rest' (min-le_left (length xs) 1025))
      (subst (λ (l : List Float). Seen m l (take (8 * m) (codes_of (take m xs) ++ rest'))) (taken_numbers m xs rest (min-le_left (length xs) 1025)) h))
