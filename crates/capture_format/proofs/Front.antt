-- What a record's bytes say, case by case, and that a record which was seen, or a fault, stays as more bytes come. Assumes nothing.
use mathlib.Core.Path.{◌≡◌, sym, ◌∙◌, ap, subst}
use mathlib.Core.List.{List, [], ◌∷◌, ◌++◌}
use Prim.Native.Nat.{ℕ, suc, ◌<◌, ◌≤◌}
use lib.ListN.{length, get_or, length-append, get_or-append}
use native.Mathlib.Decide.{ℕ_discrete, dec_le}
use borrow.Author.Tests.{eq-eqb, ne_eqb, le-leb, lt-leb}
use native.Mathlib.Omega.{arith}
use Rattle.capture_format.specs.Format.{head_of, float_at, kind, first_front, later_front}
use Rattle.capture_format.specs.declared.Parsed.TheVariants.{Head, Item, End, Partial, Broken}

seconds : (l : List ℕ) → 2 < get_or l 1 0 → 1 < length l
seconds [] h = absurd (omega arith)
seconds (a ∷ []) h = absurd (omega arith)
seconds (a ∷ (b ∷ l)) h = omega arith

module _ (l : List ℕ) where
  pub first_other : (kind l ≡ 1 → ⊥) → first_front l ≡ Broken
  unfolding first_front
  first_other h = simp (ne_eqb _ _ h)

  pub first_bad : kind l ≡ 1 → 2 < get_or l 1 0 → first_front l ≡ Broken
  unfolding first_front
  first_bad k h = simp (eq-eqb _ _ k, lt-leb _ _ h)

  pub first_cut : kind l ≡ 1 → get_or l 1 0 ≤ 2 → length l < 12 → first_front l ≡ Partial
  unfolding first_front
  first_cut k h n = simp (eq-eqb _ _ k, le-leb _ _ h, lt-leb _ _ n)

  pub first_head : kind l ≡ 1 → get_or l 1 0 ≤ 2 → 12 ≤ length l → first_front l ≡ Head (head_of l)
  unfolding first_front
  first_head k h n = simp (eq-eqb _ _ k, le-leb _ _ h, le-leb _ _ n)

  pub later_cut : kind l ≡ 2 → length l < 5 → later_front l ≡ Partial
  unfolding later_front
  later_cut k n = simp (eq-eqb _ _ k, lt-leb _ _ n)

  pub later_item : kind l ≡ 2 → 5 ≤ length l → later_front l ≡ Item (float_at l 1)
  unfolding later_front
  later_item k n = simp (eq-eqb _ _ k, le-leb _ _ n)

  pub later_end : kind l ≡ 3 → later_front l ≡ End
  unfolding later_front
  later_end k = rw k

  pub later_other : (kind l ≡ 2 → ⊥) → (kind l ≡ 3 → ⊥) → later_front l ≡ Broken
  unfolding later_front
  later_other h k = simp (ne_eqb _ _ h, ne_eqb _ _ k)

-- ---- the cases

pub data First (l : List ℕ) : Type 0 where
  other : (kind l ≡ 1 → ⊥) → First l
  bad : kind l ≡ 1 → 2 < get_or l 1 0 → First l
  cut : kind l ≡ 1 → get_or l 1 0 ≤ 2 → length l < 12 → First l
  whole : kind l ≡ 1 → get_or l 1 0 ≤ 2 → 12 ≤ length l → First l

pub data Later (l : List ℕ) : Type 0 where
  other : (kind l ≡ 2 → ⊥) → (kind l ≡ 3 → ⊥) → Later l
  cut : kind l ≡ 2 → length l < 5 → Later l
  item : kind l ≡ 2 → 5 ≤ length l → Later l
  end : kind l ≡ 3 → Later l

pub first_cases : (l : List ℕ) → First l
first_cases l = go (ℕ_discrete (kind l) 1) (dec_le (get_or l 1 0) 2) (dec_le 12 (length l))
  where
    go : Dec (kind l ≡ 1) → Dec (get_or l 1 0 ≤ 2) → Dec (12 ≤ length l) → First l
    go (no h) b c = First.other h
    go (yes k) (no h) c = First.bad k (omega arith)
    go (yes k) (yes h) (no n) = First.cut k h (omega arith)
    go (yes k) (yes h) (yes n) = First.whole k h n

pub later_cases : (l : List ℕ) → Later l
later_cases l = go (ℕ_discrete (kind l) 2) (ℕ_discrete (kind l) 3) (dec_le 5 (length l))
  where
    go : Dec (kind l ≡ 2) → Dec (kind l ≡ 3) → Dec (5 ≤ length l) → Later l
    go (yes k) b (yes n) = Later.item k n
    go (yes k) b (no n) = Later.cut k (omega arith)
    go (no h) (yes k) c = Later.end k
    go (no h) (no k) c = Later.other h k

-- ---- how long a record is

pub first_partial : (l : List ℕ) → first_front l ≡ Partial → length l < 12
first_partial l e = go (first_cases l)
  where
    go : First l → length l < 12
    go (First.other h) = let z : Broken ≡ Partial = sym (first_other l h) ∙ e in (let w : ◌≡◌ {A = ℕ} 0 1 = cc in absurd (omega arith))
    go (First.bad k h) = let z : Broken ≡ Partial = sym (first_bad l k h) ∙ e in (let w : ◌≡◌ {A = ℕ} 0 1 = cc in absurd (omega arith))
    go (First.cut k h n) = n
    go (First.whole k h n) = let z : Head (head_of l) ≡ Partial = sym (first_head l k h n) ∙ e in (let w : ◌≡◌ {A = ℕ} 0 1 = cc in absurd (omega arith))

pub later_partial : (l : List ℕ) → later_front l ≡ Partial → length l < 5
later_partial l e = go (later_cases l)
  where
    go : Later l → length l < 5
    go (Later.other h k) = let z : Broken ≡ Partial = sym (later_other l h k) ∙ e in (let w : ◌≡◌ {A = ℕ} 0 1 = cc in absurd (omega arith))
    go (Later.cut k n) = n
    go (Later.item k n) = let z : Item (float_at l 1) ≡ Partial = sym (later_item l k n) ∙ e in (let w : ◌≡◌ {A = ℕ} 0 1 = cc in absurd (omega arith))
    go (Later.end k) = let z : End ≡ Partial = sym (later_end l k) ∙ e in (let w : ◌≡◌ {A = ℕ} 0 1 = cc in absurd (omega arith))

pub later_not_end : (l : List ℕ) → kind l ≡ 2 → later_front l ≡ End → ⊥
later_not_end l k e = go (later_cases l)
  where
    go : Later l → ⊥
    go (Later.other h m) = h k
    go (Later.cut m n) = let z : Partial ≡ End = sym (later_cut l m n) ∙ e in (let w : ◌≡◌ {A = ℕ} 0 1 = cc in absurd (omega arith))
    go (Later.item m n) = let z : Item (float_at l 1) ≡ End = sym (later_item l m n) ∙ e in (let w : ◌≡◌ {A = ℕ} 0 1 = cc in absurd (omega arith))
    go (Later.end m) = absurd (omega arith)

-- ---- more bytes

module _ (l rest : List ℕ) where
  at : (i : ℕ) → i < length l → get_or (l ++ rest) i 0 ≡ get_or l i 0
  at i h = get_or-append l rest 0 i h

  longer : length l ≤ length (l ++ rest)
  longer = simp length-append (omega arith)

  pub some : (k : ℕ) → kind l ≡ suc k → 0 < length l
  some k e = go l e
    where
      go : (m : List ℕ) → kind m ≡ suc k → 0 < length m
      go [] z = absurd (omega arith)
      go (a ∷ m) z = omega arith

  pub kind_still : (k : ℕ) → kind l ≡ suc k → kind (l ++ rest) ≡ suc k
  kind_still k e = at 0 (some k e) ∙ e

  pub first_still_other : 0 < length l → (kind l ≡ 1 → ⊥) → first_front (l ++ rest) ≡ Broken
  first_still_other n h = first_other (l ++ rest) (λ e. h (sym (at 0 n) ∙ e))

  pub first_still_bad : kind l ≡ 1 → 2 < get_or l 1 0 → first_front (l ++ rest) ≡ Broken
  first_still_bad k h =
      first_bad (l ++ rest) (at 0 (some 0 k) ∙ k) (subst (λ (n : ℕ). 2 < n) (sym (at 1 (seconds l h))) h)

  same_head : 12 ≤ length l → head_of (l ++ rest) ≡ head_of l
  same_head n =
      simp (
        at 1 (omega arith),
        at 2 (omega arith),
        at 3 (omega arith),
        at 4 (omega arith),
        at 5 (omega arith),
        at 6 (omega arith),
        at 7 (omega arith),
        at 8 (omega arith),
        at 9 (omega arith),
        at 10 (omega arith),
        at 11 (omega arith),
      )

  same_float : 5 ≤ length l → float_at (l ++ rest) 1 ≡ float_at l 1
  same_float n = simp (at 1 (omega arith), at 2 (omega arith), at 3 (omega arith), at 4 (omega arith))

  pub first_still_head : kind l ≡ 1 → get_or l 1 0 ≤ 2 → 12 ≤ length l → first_front (l ++ rest) ≡ Head (head_of l)
  first_still_head k h n =
      first_head (l ++ rest) (at 0 (omega arith) ∙ k) (subst (λ (m : ℕ). m ≤ 2) (sym (at 1 (omega arith))) h) (omega (arith, longer)) ∙ ap Head (same_head n)

  pub later_still_other : 0 < length l → (kind l ≡ 2 → ⊥) → (kind l ≡ 3 → ⊥) → later_front (l ++ rest) ≡ Broken
  later_still_other n h k = later_other (l ++ rest) (λ e. h (sym (at 0 n) ∙ e)) (λ e. k (sym (at 0 n) ∙ e))

  pub later_still_item : kind l ≡ 2 → 5 ≤ length l → later_front (l ++ rest) ≡ Item (float_at l 1)
  later_still_item k n = later_item (l ++ rest) (at 0 (omega arith) ∙ k) (omega (arith, longer)) ∙ ap Item (same_float n)

  pub later_still_end : kind l ≡ 3 → later_front (l ++ rest) ≡ End
  later_still_end k = later_end (l ++ rest) (at 0 (some 2 k) ∙ k)
