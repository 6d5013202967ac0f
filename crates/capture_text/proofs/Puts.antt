-- Text that is put after text, and how long a number is. Assumes nothing.
use mathlib.Core.Path.{◌≡◌, refl, sym, ◌∙◌, ap, subst}
use mathlib.Core.Bool.{Bool, true, false, cond}
use mathlib.Core.List.{List, [], ◌∷◌, ◌++◌, append_assoc, append-nil}
use Prim.Native.Nat.{ℕ, zero, suc, ◌+◌, ◌-◌, ◌*◌, ◌/◌, ◌%◌, ◌<◌, ◌≤◌}
use native.Mathlib.Omega.{arith}
use native.Mathlib.Numerals.{add-one}
use native.Mathlib.Nat.{add-zero}
use lib.Dec.{ltb}
use lib.ListN.{length, get_or, take, length-append}
use lib.Seq.{take-suc}
use borrow.Author.Tests.{lt-ltb, le-ltb}
use Rattle.checks.specs.Domain.{where_of, refusal_of}
use Rattle.checks.specs.declared.Place.{Place}
use Rattle.checks.specs.declared.Place.TheVariants.{Container, At}
use Rattle.checks.specs.declared.Refusal.{Refusal}
use Rattle.checks.specs.declared.Refusal.TheVariants.{TooManyItems, TooLittleRoom, NotFinite, OffGrid}
use Rattle.checks.specs.declared.Refusal.TheVariants.{OutOfRange, SumTooLarge}
use Rattle.capture_text.specs.Text.{decimal_to, decimal, spaced, place_text, accepted, title_text, counts_word}
use Rattle.capture_text.specs.Parts.{Puts}
use Rattle.capture_text.specs.declared.Text.{Text}

pub put_none : (text : Text) → Puts [] text text
put_none text = record {
  past = sym (add-zero text.length);
  front = sym (append-nil (take text.length text.cells.now));
  as_long = refl;
  same_cells = refl;
}

pub put_more : {t u : List ℕ} {before mid after : Text} → Puts t before mid → Puts u mid after → Puts (t ++ u) before after
put_more {t} {u} {before} p q = record {
  past = omega (arith, p.past, q.past, length-append t u);
  front = q.front ∙ (ap (λ (l : List ℕ). l ++ u) p.front ∙ append_assoc (take before.length before.cells.now) t u);
  as_long = q.as_long ∙ p.as_long;
  same_cells = q.same_cells ∙ p.same_cells;
}

-- ---- numbers

pub places : (k n : ℕ) → length (decimal_to k n) ≤ k
unfolding decimal_to
places zero n = omega arith
places (suc k) n = go (ltb n 10) (places k (n / 10))
  where
    go : (t : Bool) → length (decimal_to k (n / 10)) ≤ k → length (cond t ((48 + n) ∷ []) (decimal_to k (n / 10) ++ ((48 + n % 10) ∷ []))) ≤ suc k
    go true h = omega arith
    go false h = omega (arith, length-append (decimal_to k (n / 10)) ((48 + n % 10) ∷ []))

decimal-none : (n : ℕ) → decimal_to 0 n ≡ []
unfolding decimal_to
decimal-none n = refl

decimal-one : (k n : ℕ) → 0 < k → n < 10 → decimal_to k n ≡ (48 + n) ∷ []
unfolding decimal_to
decimal-one zero n h z = absurd (omega arith)
decimal-one (suc k) n h z = rw (lt-ltb _ _ z)

decimal-more : (k n : ℕ) → 0 < k → 10 ≤ n → decimal_to k n ≡ decimal_to (k - 1) (n / 10) ++ ((48 + n % 10) ∷ [])
unfolding decimal_to
decimal-more zero n h z = absurd (omega arith)
decimal-more (suc k) n h z = let e : suc k - 1 ≡ k = omega arith in rw (le-ltb _ _ z, e)

module _ (k n : ℕ) where
  pub number_none : {text : Text} → k ≡ 0 → Puts (decimal_to k n) text text
  number_none {text} e = subst (λ (l : List ℕ). Puts l text text) (sym (ap (λ (j : ℕ). decimal_to j n) e ∙ decimal-none n)) (put_none text)

  pub number_one : {before after : Text} → 0 < k → n < 10 → Puts ((48 + n) ∷ []) before after → Puts (decimal_to k n) before after
  number_one {before} {after} h z p = subst (λ (l : List ℕ). Puts l before after) (sym (decimal-one k n h z)) p

  pub number_more : {before mid after : Text} → 0 < k → 10 ≤ n → Puts (decimal_to (k - 1) (n / 10)) before mid → Puts ((48 + n % 10) ∷ []) mid after
      → Puts (decimal_to k n) before after
  number_more {before} {after = after} h z p q = subst (λ (l : List ℕ). Puts l before after) (sym (decimal-more k n h z)) (put_more p q)

-- ---- the counts

spaced_snoc : (l : List ℕ) (n : ℕ) → spaced (l ++ (n ∷ [])) ≡ spaced l ++ (32 ∷ decimal n)
spaced_snoc [] n = append-nil (32 ∷ decimal n)
spaced_snoc (m ∷ l) n = ap (λ (t : List ℕ). (32 ∷ decimal m) ++ t) (spaced_snoc l n) ∙ sym (append_assoc (32 ∷ decimal m) (spaced l) (32 ∷ decimal n))

-- i of the counts are put, in at most 21 bytes each
pub record Counted (counts : List ℕ) (before now : Text) (i : ℕ) : Type 0 where
  pub text : Puts (spaced (take i counts)) before now
  pub short : now.length ≤ before.length + 21 * i

pub counted_next : {counts : List ℕ} {before now after : Text} {i : ℕ} → Counted counts before now i → i < length counts
    → Puts (32 ∷ decimal (get_or counts i 0)) now after → Counted counts before after (i + 1)
counted_next {counts} {before} {now} {after} {i} c h p = record {
  text = subst (λ (l : List ℕ). Puts l before after) (sym (ap spaced e ∙ spaced_snoc (take i counts) (get_or counts i 0))) (put_more c.text p);
  short = omega (arith, c.short, p.past, places 20 (get_or counts i 0));
}
  where
    e : take (i + 1) counts ≡ take i counts ++ (get_or counts i 0 ∷ [])
    e = rw add-one (take-suc counts i 0 h)

-- ---- how long a text is

pub place_short : (p : Place) → length (place_text (where_of p)) ≤ 20
place_short Container = omega arith
place_short (At i) = places 20 i

pub spaced_short : (n : ℕ) (l : List ℕ) → length (spaced (take n l)) ≤ 21 * length l
spaced_short zero l = omega arith
spaced_short (suc n) [] = omega arith
spaced_short (suc n) (m ∷ l) =
    omega (arith, length-append (32 ∷ decimal m) (spaced (take n l)), places 20 m, spaced_short n l)

pub title_short : (n : ℕ) → length (title_text (accepted n)) ≤ 42
title_short n = omega (arith, length-append (decimal n) (10 ∷ counts_word), places 20 n)

-- a refusal's number is one digit
pub number_few : (why : Refusal) → (refusal_of why).number < 8
number_few TooManyItems = omega arith
number_few TooLittleRoom = omega arith
number_few (NotFinite p) = omega arith
number_few (OffGrid p) = omega arith
number_few (OutOfRange p) = omega arith
number_few SumTooLarge = omega arith
