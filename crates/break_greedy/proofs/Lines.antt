-- Greedy breaking for readers and for the balanced breaker: one line and the rest, what its first line is, sums, and the limits without a number.
-- By the law of one line (`greedy-more`), which does without the bound on the number of lines. Assumes nothing.
use mathlib.Core.Path.{◌≡◌, refl, sym, ap, ◌∙◌, subst}
use mathlib.Core.Bool.{true, false}
use mathlib.Core.List.{List, [], ◌∷◌, ◌++◌}
use Prim.Native.Nat.{ℕ, zero, suc, ◌+◌, ◌≤◌, ◌<◌, zero-le, suc-le-suc}
use native.Mathlib.Nat.{le_refl, le_of_suc-le-suc, not-suc-le-zero, zero-lt-suc}
use native.Mathlib.Omega.{arith}
use lib.ListN.{length, get_or, take, drop, replicate, length-drop, drop_of_length-le}
use lib.IntN.{ℤ}
use Rattle.break_greedy.specs.Breaking.{Limit, min_content, max_content, fits, line_size, taken, lines_of, greedy}
use Rattle.break_greedy.proofs.Taken.{taken-le, Takes, takes, takes_one}

-- the sum of counts
unfoldable pub total : List ℕ → ℕ
total [] = 0
total (c ∷ d) = c + total d

module _ (limit : Limit) (gap : ℤ) where
  -- ---- one line and the rest

  shorter : (k : ℕ) (l : List ℤ) (n : ℕ) → length l ≤ n → length (drop k l) ≤ n
  shorter k l n h = omega (arith, length-drop k l)

  -- the bound on the number of lines does not matter
  enough : (n m : ℕ) (l : List ℤ) → length l ≤ n → length l ≤ m → lines_of n limit gap l ≡ lines_of m limit gap l
  unfolding lines_of
  enough zero zero l p q = refl
  enough zero (suc m) [] p q = refl
  enough zero (suc m) (x ∷ l) p q = absurd (not-suc-le-zero p)
  enough (suc n) zero [] p q = refl
  enough (suc n) zero (x ∷ l) p q = absurd (not-suc-le-zero q)
  enough (suc n) (suc m) [] p q = refl
  enough (suc n) (suc m) (x ∷ l) p q =
      let k = taken limit gap (x ∷ []) l in
      ap (λ (r : List ℕ). suc k ∷ r) (enough n m (drop k l) (shorter k l n (le_of_suc-le-suc p)) (shorter k l m (le_of_suc-le-suc q)))

  -- no items, no lines
  pub greedy-none : greedy limit gap [] ≡ []
  unfolding greedy lines_of
  greedy-none = refl

  pub greedy-more : (x : ℤ) (l : List ℤ) → greedy limit gap (x ∷ l) ≡ suc (taken limit gap (x ∷ []) l) ∷ greedy limit gap (drop (taken limit gap (x ∷ []) l) l)
  unfolding greedy lines_of
  greedy-more x l =
      let k = taken limit gap (x ∷ []) l in
      ap (λ (r : List ℕ). suc k ∷ r) (enough (length l) (length (drop k l)) (drop k l) (shorter k l (length l) (le_refl (length l))) (le_refl (length (drop k l))))

  -- ---- what the first line is

  -- the first line of xs has c items: it fits with each item from the second on, and not with one more
  pub record FirstLine (xs : List ℤ) (c : ℕ) : Type 0 where
    pub positive : 0 < c
    pub inside : c ≤ length xs
    pub fit : (j : ℕ) → 1 < j → j ≤ c → fits limit (line_size gap (take j xs)) ≡ true
    pub full : c < length xs → fits limit (line_size gap (take (suc c) xs)) ≡ false

  first_of : (x : ℤ) (l : List ℤ) (k : ℕ) → Takes limit gap (x ∷ []) l k → FirstLine (x ∷ l) (suc k)
  first_of x l k t = record { positive = zero-lt-suc k; inside = suc-le-suc t.inside; fit = each; full = λ h. t.full (le_of_suc-le-suc h) }
    where
      each : (j : ℕ) → 1 < j → j ≤ suc k → fits limit (line_size gap (take j (x ∷ l))) ≡ true
      each zero p q = absurd (not-suc-le-zero p)
      each (suc zero) p q = absurd (not-suc-le-zero (le_of_suc-le-suc p))
      each (suc (suc j)) p q = t.fit j (le_of_suc-le-suc q)

  pub first_line : (xs : List ℤ) (c : ℕ) (d : List ℕ) → greedy limit gap xs ≡ c ∷ d → FirstLine xs c × (d ≡ greedy limit gap (drop c xs))
  first_line [] c d e = let z : ◌≡◌ {A = ℕ} 0 1 = cc greedy-none in absurd (omega arith)
  first_line (x ∷ l) c d e =
      let k = taken limit gap (x ∷ []) l in
      let p : suc k ≡ c = cc (greedy-more x l) in
      let q : greedy limit gap (drop k l) ≡ d = cc (greedy-more x l) in
      (subst (FirstLine (x ∷ l)) p (first_of x l k (takes limit gap (x ∷ []) l)), sym q ∙ ap (λ (n : ℕ). greedy limit gap (drop n (x ∷ l))) p)

  -- and any number that is so is the first count
  pub first_is : (xs : List ℤ) (c : ℕ) → FirstLine xs c → greedy limit gap xs ≡ c ∷ greedy limit gap (drop c xs)
  first_is xs zero f = absurd (not-suc-le-zero f.positive)
  first_is [] (suc c) f = absurd (not-suc-le-zero f.inside)
  first_is (x ∷ l) (suc c) f = greedy-more x l ∙ ap (λ (k : ℕ). suc k ∷ greedy limit gap (drop k l)) (takes_one limit gap (x ∷ []) l c as_taken)
    where
      as_taken : Takes limit gap (x ∷ []) l c
      as_taken = record { inside = le_of_suc-le-suc f.inside; fit = λ j h. f.fit (suc (suc j)) (suc-le-suc (zero-lt-suc j)) (suc-le-suc h); full = λ h. f.full (suc-le-suc h) }

  -- ---- all lines

  -- counts of which each is a first line of what the ones before it leave, until no item is left
  abbrev pub AllLines : List ℤ → List ℕ → Type 0
  AllLines xs [] = xs ≡ []
  AllLines xs (c ∷ d) = FirstLine xs c × AllLines (drop c xs) d

  -- greedy breaking has such lines, and no other counts have
  pub greedy_lines : (xs : List ℤ) → AllLines xs (greedy limit gap xs)
  greedy_lines xs = go (greedy limit gap xs) xs refl
    where
      go : (counts : List ℕ) (xs : List ℤ) → greedy limit gap xs ≡ counts → AllLines xs counts
      go [] [] e = refl
      go [] (x ∷ l) e = let z : ◌≡◌ {A = ℕ} 0 1 = cc (greedy-more x l) in absurd (omega arith)
      go (c ∷ d) xs e = let p = first_line xs c d e in (p.0, go d (drop c xs) (sym p.1))

  pub lines_greedy : (xs : List ℤ) (counts : List ℕ) → AllLines xs counts → counts ≡ greedy limit gap xs
  lines_greedy xs [] e = sym (ap (greedy limit gap) e ∙ greedy-none)
  lines_greedy xs (c ∷ d) (f, r) = ap (λ (t : List ℕ). c ∷ t) (lines_greedy (drop c xs) d r) ∙ sym (first_is xs c f)

  -- ---- the counts: positive, no more than items, and together the number of items

  counted : (n : ℕ) (l : List ℤ) → length l ≤ n → total (lines_of n limit gap l) ≡ length l
  unfolding lines_of total
  counted zero [] h = refl
  counted zero (x ∷ l) h = absurd (not-suc-le-zero h)
  counted (suc n) [] h = refl
  counted (suc n) (x ∷ l) h =
      let k = taken limit gap (x ∷ []) l in
      let ih = counted n (drop k l) (shorter k l n (le_of_suc-le-suc h)) in
      omega (arith, ih, length-drop k l, taken-le limit gap (x ∷ []) l)

  pub greedy-total : (xs : List ℤ) → total (greedy limit gap xs) ≡ length xs
  unfolding greedy
  greedy-total xs = counted (length xs) xs (le_refl (length xs))

  above_0 : (n : ℕ) (l : List ℤ) (i : ℕ) → i < length (lines_of n limit gap l) → 0 < get_or (lines_of n limit gap l) i 0
  unfolding lines_of
  above_0 zero l i h = absurd (not-suc-le-zero h)
  above_0 (suc n) [] i h = absurd (not-suc-le-zero h)
  above_0 (suc n) (x ∷ l) zero h = zero-lt-suc (taken limit gap (x ∷ []) l)
  above_0 (suc n) (x ∷ l) (suc i) h = above_0 n (drop (taken limit gap (x ∷ []) l) l) i (le_of_suc-le-suc h)

  pub greedy-positive : (xs : List ℤ) (i : ℕ) → i < length (greedy limit gap xs) → 0 < get_or (greedy limit gap xs) i 0
  unfolding greedy
  greedy-positive xs i h = above_0 (length xs) xs i h

  few : (n : ℕ) (l : List ℤ) → length (lines_of n limit gap l) ≤ n
  unfolding lines_of
  few zero l = zero-le
  few (suc n) [] = zero-le
  few (suc n) (x ∷ l) = suc-le-suc (few n (drop (taken limit gap (x ∷ []) l) l))

  -- no more lines than items
  pub greedy_few : (xs : List ℤ) → length (greedy limit gap xs) ≤ length xs
  unfolding greedy
  greedy_few xs = few (length xs) xs

-- ---- the limits without a number

-- "min-content gives one item to each line"
pub greedy-min : (gap : ℤ) (xs : List ℤ) → greedy min_content gap xs ≡ replicate (length xs) 1
unfolding taken fits
greedy-min gap [] = greedy-none min_content gap
greedy-min gap (x ∷ l) =
    greedy-more min_content gap x l ∙ ap (λ (k : ℕ). suc k ∷ greedy min_content gap (drop k l)) (alone l) ∙ ap (λ (r : List ℕ). 1 ∷ r) (greedy-min gap l)
  where
    alone : (l : List ℤ) → taken min_content gap (x ∷ []) l ≡ 0
    alone [] = refl
    alone (y ∷ l) = refl

-- max-content gives one line
pub greedy-max : (gap x : ℤ) (l : List ℤ) → greedy max_content gap (x ∷ l) ≡ suc (length l) ∷ []
unfolding taken fits
greedy-max gap x l =
    greedy-more max_content gap x l
    ∙ ap (λ (k : ℕ). suc k ∷ greedy max_content gap (drop k l)) (all (x ∷ []) l)
    ∙ ap (λ (r : List ℕ). suc (length l) ∷ r) (ap (greedy max_content gap) (drop_of_length-le l (le_refl (length l))) ∙ greedy-none max_content gap)
  where
    all : (line l : List ℤ) → taken max_content gap line l ≡ length l
    all line [] = refl
    all line (y ∷ l) = ap suc (all (line ++ (y ∷ [])) l)
