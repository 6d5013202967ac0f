-- The least mark in the order of the checks: marks of one check lie below those of the next, and within a check the container's below the items'. So a least mark is the first
-- check that a number fails, with the first place that fails it. Assumes nothing.
use mathlib.Core.Path.{◌≡◌, refl, sym, ap, ap₂, ◌∙◌}
use mathlib.Core.Bool.{Bool, true, false, cond, ◌||◌}
use mathlib.Core.List.{List, [], ◌∷◌}
use Prim.Native.Nat.{ℕ, zero, suc, ◌+◌, ◌≤◌, ◌<◌, min}
use native.Mathlib.Nat.{min-eq_left, min-eq_right, le_refl, zero-add}
use native.Mathlib.Omega.{arith}
use lib.Dec.{ltb, leb-suc-suc}
use borrow.Author.Tests.{lt-ltb, le-ltb, ltb-true}
use Rattle.checks.specs.Domain.{Number, not_finite, off_grid, out_of_range, any, first}
use Rattle.checks.specs.Marks.{mark, least_of, least_up_to}

-- ---- one place: the marks of one check, below those of the checks after it
pub cond-le : (b : Bool) (m x y : ℕ) → m ≤ x → m ≤ y → m ≤ cond b x y
cond-le true m x y h k = h
cond-le false m x y h k = k

layer : (a b : Bool) (m x y : ℕ) → m ≤ x → m ≤ y → min (cond a m x) (cond b m y) ≡ cond (a || b) m (min x y)
layer true true m x y h k = min-eq_left (le_refl m)
layer true false m x y h k = min-eq_left k
layer false true m x y h k = min-eq_right h
layer false false m x y h k = refl

-- the mark of a place at which the three checks have the outcomes a, b and c
abbrev pub mark_of : Bool → Bool → Bool → ℕ → ℕ
mark_of a b c place = cond a place (cond b (2048 + place) (cond c (4096 + place) 6144))

module _ (p : ℕ) (h : p ≤ 1024) where
  late : (c : Bool) → 2048 + p ≤ cond c (4096 + p) 6144
  late c = cond-le c (2048 + p) (4096 + p) 6144 (omega arith) (omega arith)

  later : (b c : Bool) → p ≤ cond b (2048 + p) (cond c (4096 + p) 6144)
  later b c = cond-le b p (2048 + p) (cond c (4096 + p) 6144) (omega arith) (cond-le c p (4096 + p) 6144 (omega arith) (omega arith))

  both_marks : (a b c a' b' c' : Bool) → min (mark_of a b c p) (mark_of a' b' c' p) ≡ mark_of (a || a') (b || b') (c || c') p
  both_marks a b c a' b' c' =
      layer a a' p _ _ (later b c) (later b' c')
      ∙ ap (cond (a || a') p) (layer b b' (2048 + p) _ _ (late c) (late c') ∙ ap (cond (b || b') (2048 + p)) (layer c c' (4096 + p) 6144 6144 (omega arith) (omega arith)))

  pub least_is : (l : List Number) → least_of l p ≡ mark_of (any not_finite l) (any off_grid l) (any out_of_range l) p
  unfolding least_of any mark
  least_is [] = refl
  least_is (x ∷ l) = ap (min (mark_of (not_finite x) (off_grid x) (out_of_range x) p)) (least_is l) ∙ both_marks (not_finite x) (off_grid x) (out_of_range x) (any not_finite l) (any off_grid l) (any out_of_range l)

-- ---- the items: the first that fails
-- from the other end: the first of n items more one
first_more : (q : ℕ → Bool) (n : ℕ) → first q (suc n) ≡ cond (ltb (first q n) n) (first q n) (cond (q n) n (suc n))
unfolding first
first_more q zero = go (q zero)
  where
    go : (b : Bool) → cond b zero (suc zero) ≡ cond b zero (suc zero)
    go b = refl
first_more q (suc n) = go (q zero) (first (λ i. q (suc i)) n) (first (λ i. q (suc i)) (suc n)) (first_more (λ i. q (suc i)) n)
  where
    inside : (t u : Bool) (r : ℕ) → suc (cond t r (cond u n (suc n))) ≡ cond t (suc r) (cond u (suc n) (suc (suc n)))
    inside true u r = refl
    inside false true r = refl
    inside false false r = refl

    go : (b : Bool) (r s : ℕ) → s ≡ cond (ltb r n) r (cond (q (suc n)) n (suc n)) → cond b zero (suc s) ≡ cond (ltb (cond b zero (suc r)) (suc n)) (cond b zero (suc r)) (cond (q (suc n)) (suc n) (suc (suc n)))
    go true r s e = ap (λ (t : Bool). cond t zero (cond (q (suc n)) (suc n) (suc (suc n)))) (sym (lt-ltb 0 (suc n) (omega arith)))
    go false r s e = ap suc e ∙ inside (ltb r n) (q (suc n)) r ∙ ap (λ (t : Bool). cond t (suc r) (cond (q (suc n)) (suc n) (suc (suc n)))) (sym (leb-suc-suc (suc r) n))

-- what all of f are at least, and 6144 is, so is their least
least_ge : (f : ℕ → ℕ) (m : ℕ) → m ≤ 6144 → ((i : ℕ) → m ≤ f i) → (n : ℕ) → m ≤ least_up_to f n
unfolding least_up_to
least_ge f m h k zero = h
least_ge f m h k (suc n) = let a = least_ge f m h k n in let b = k n in omega arith

-- the marks of one check, from `base` on, below all of g: the least is that of the first item that fails it, and where none does the least of g
module _ (base : ℕ) (fails : ℕ → Bool) (g : ℕ → ℕ) (most : base + 1024 ≤ 6144) (above : (i : ℕ) → base + 1024 ≤ g i) where
  abbrev marks : ℕ → ℕ
  marks i = cond (fails i) (base + (i + 1)) (g i)

  sweep : (n : ℕ) → n ≤ 1024 → least_up_to marks n ≡ cond (ltb (first fails n) n) (base + (first fails n + 1)) (least_up_to g n)
  unfolding least_up_to first
  sweep zero h = refl
  sweep (suc n) h = ap (λ (m : ℕ). min m (marks n)) (sweep n (omega arith)) ∙ go (ltb (first fails n) n) (fails n) (ltb-true (first fails n) n) (first_more fails n)
    where
      i : ℕ
      i = first fails n

      rest : base + 1024 ≤ least_up_to g n
      rest = least_ge g (base + 1024) most above n

      end : (t : Bool) (s : ℕ) → ltb s (suc n) ≡ t → s ≡ first fails (suc n) → (x : ℕ) → x ≡ cond t (base + (s + 1)) (min (least_up_to g n) (g n))
          → x ≡ cond (ltb (first fails (suc n)) (suc n)) (base + (first fails (suc n) + 1)) (min (least_up_to g n) (g n))
      end t s e p x q = q ∙ ap (λ (d : Bool). cond d (base + (s + 1)) (min (least_up_to g n) (g n))) (sym e) ∙ ap (λ (k : ℕ). cond (ltb k (suc n)) (base + (k + 1)) (min (least_up_to g n) (g n))) p

      go : (t u : Bool) → (t ≡ true → i < n) → first fails (suc n) ≡ cond t i (cond u n (suc n)) → min (cond t (base + (i + 1)) (least_up_to g n)) (cond u (base + (n + 1)) (g n))
          ≡ cond (ltb (first fails (suc n)) (suc n)) (base + (first fails (suc n) + 1)) (min (least_up_to g n) (g n))
      go true u l e =
          let j : i < n = l refl in
          let k : base + (i + 1) ≤ cond u (base + (n + 1)) (g n) = cond-le u (base + (i + 1)) (base + (n + 1)) (g n) (omega arith) (omega (arith, above n)) in
          end true i (lt-ltb i (suc n) (omega arith)) (sym e) _ (min-eq_left k)
      go false true l e = let r = rest in end true n (lt-ltb n (suc n) (omega arith)) (sym e) _ (min-eq_right {n = base + (n + 1)} (omega arith))
      go false false l e = end false (suc n) (le-ltb (suc n) (suc n) (le_refl (suc n))) (sym e) _ refl

pub least_ext : (f g : ℕ → ℕ) (n : ℕ) → ((i : ℕ) → i < n → f i ≡ g i) → least_up_to f n ≡ least_up_to g n
unfolding least_up_to
least_ext f g zero h = refl
least_ext f g (suc n) h = ap₂ min (least_ext f g n (λ (i : ℕ) (l : i < n). h i (omega arith))) (h n (omega arith))

least_flat : (n : ℕ) → least_up_to (λ i. 6144) n ≡ 6144
unfolding least_up_to
least_flat zero = refl
least_flat (suc n) = ap (λ (m : ℕ). min m 6144) (least_flat n) ∙ min-eq_left (le_refl 6144)

module _ (a b c : ℕ → Bool) (n : ℕ) (h : n ≤ 1024) where
  abbrev after_3 : ℕ → ℕ
  after_3 i = cond (b i) (2048 + (i + 1)) (cond (c i) (4096 + (i + 1)) 6144)

  abbrev after_4 : ℕ → ℕ
  after_4 i = cond (c i) (4096 + (i + 1)) 6144

  -- check 3 over all items, then check 4, then check 5
  pub items_are : least_up_to (λ i. mark_of (a i) (b i) (c i) (i + 1)) n
      ≡ cond (ltb (first a n) n) (0 + (first a n + 1)) (cond (ltb (first b n) n) (2048 + (first b n + 1)) (cond (ltb (first c n) n) (4096 + (first c n + 1)) 6144))
  items_are =
      least_ext _ _ n (λ (i : ℕ) (l : i < n). ap (λ (m : ℕ). cond (a i) m (after_3 i)) (sym (zero-add (i + 1))))
      ∙ sweep 0 a after_3 (omega arith) (λ (i : ℕ). cond-le (b i) 1024 (2048 + (i + 1)) (after_4 i) (omega arith) (cond-le (c i) 1024 (4096 + (i + 1)) 6144 (omega arith) (omega arith))) n h
      ∙ ap (cond (ltb (first a n) n) (0 + (first a n + 1)))
      (sweep 2048 b after_4 (omega arith) (λ (i : ℕ). cond-le (c i) 3072 (4096 + (i + 1)) 6144 (omega arith) (omega arith)) n h
      ∙ ap (cond (ltb (first b n) n) (2048 + (first b n + 1)))
      (sweep 4096 c (λ i. 6144) (omega arith) (λ (i : ℕ). omega arith) n h ∙ ap (cond (ltb (first c n) n) (4096 + (first c n + 1))) (least_flat n)))
