-- Lists of n cells one after another: list k is the part of a list from k·n on, and a list that is stored leaves the others. By the laws of parts. Assumes nothing.
use mathlib.Core.Path.{◌≡◌, refl, sym, ap, ◌∙◌}
use mathlib.Core.Logic.{◌⊎◌, inl, inr}
use mathlib.Core.List.{List, [], ◌∷◌, ◌++◌}
use Prim.Native.Nat.{ℕ, suc, ◌+◌, ◌*◌, ◌-◌, ◌≤◌, ◌<◌}
use native.Mathlib.Nat.{mul-le-mul_right, suc-mul}
use native.Mathlib.Omega.{arith}
use lib.ListN.{length, take, drop, length-drop, take-append-drop}
use lib.Seq.{length-take-le, drop-drop, take_at, drop_at, take-append-le, drop-append-le}
use lib.Ieee.{Float}
use borrow.Rule.Slice.PartMut.{put_mid, post_of, same_len_mid, mid_len, take_put, drop_put}
use Rattle.pass_container.specs.Columns.{column}
use Rattle.pass_container.specs.Stages.{ColumnStored, FourStored}

-- ---- list k

pub take_none : {A : Type 0} (l : List A) → take 0 l ≡ []
take_none [] = refl
take_none (y ∷ l) = refl

pub part-column : {A : Type 0} (n k : ℕ) (l : List A) → take (k * n + n - k * n) (drop (k * n) l) ≡ column n k l
unfolding column
part-column {A} n k l = ap (λ (m : ℕ). take m (drop (k * n) l)) (same (k * n))
  where
    same : (a : ℕ) → a + n - a ≡ n
    same a = omega arith

pub length-column : {A : Type 0} (n k : ℕ) (l : List A) → k * n + n ≤ length l → length (column n k l) ≡ n
unfolding column
length-column n k l h = length-take-le n (drop (k * n) l) (omega (arith, length-drop (k * n) l))

-- a list that lies below j·n is before list j
pub before : (n k j : ℕ) → k < j → k * n + n ≤ j * n
before n k j h = omega (arith, suc-mul k n, mul-le-mul_right {m = suc k} {n = j} n h)

-- ---- a part of the front

front : {A : Type 0} (n a m : ℕ) (l : List A) → a + n ≤ m → m ≤ length l → take n (drop a (take m l)) ≡ take n (drop a l)
front {A} n a m l h k =
    let s = length-take-le m l k in
    sym (take-append-le n (drop a (take m l)) (drop m l) (omega (arith, s, length-drop a (take m l)))
    ∙ refl)
    ∙ ap (take n) (sym (drop-append-le a (take m l) (drop m l) (omega (arith, s))) ∙ ap (drop a) (take-append-drop m l))

-- ---- a list that is stored

module _ (n k : ℕ) (old part : List Float) (h : k * n + n ≤ length old) (l : length part ≡ n) where
  abbrev new : List Float
  new = put_mid (k * n) (k * n + n - k * n) old part

  width : length part ≡ k * n + n - k * n
  width = l ∙ same (k * n)
    where
      same : (a : ℕ) → n ≡ a + n - a
      same a = omega arith

  long : length new ≡ length old
  long = same_len_mid (k * n) (k * n + n - k * n) old part (width ∙ sym (mid_len (k * n) (k * n + n) old h))

  rest : (m : ℕ) → k < m → drop (m * n) new ≡ drop (m * n) old
  rest m g =
      let e = k * n + n in
      let b = before n k m g in
      let s : e + (m * n - e) ≡ m * n = omega arith in
      ap (λ (i : ℕ). drop i new) (sym s) ∙ sym (drop-drop (m * n - e) e new) ∙ ap (drop (m * n - e)) (drop_put (k * n) e old part (omega arith) h width) ∙ drop-drop (m * n - e) e old ∙ ap (λ (i : ℕ). drop i old) s

  pub stored_of : ColumnStored n k part old new
  unfolding column
  stored_of = record {
    here = ap (take n) (drop_at (take (k * n) old) (part ++ post_of (k * n) (k * n + n - k * n) old) (k * n) (length-take-le (k * n) old (omega arith))) ∙ take_at part (post_of (k * n) (k * n + n - k * n) old) n l;
    others = λ j s. other j s;
    past = rest;
    long = long;
  }
    where
      other : (j : ℕ) → (j < k) ⊎ (k < j) → take n (drop (j * n) new) ≡ take n (drop (j * n) old)
      other j (inr g) = ap (take n) (rest j g)
      other j (inl g) =
          let b = before n j k g in
          sym (front n (j * n) (k * n) new b (omega (arith, long))) ∙ ap (λ (y : List Float). take n (drop (j * n) y)) (take_put (k * n) (k * n + n - k * n) old part (omega arith)) ∙ front n (j * n) (k * n) old b (omega arith)

-- ---- four lists stored, one after another

pub four_of : (n k : ℕ) (a b c d p q r s t : List Float) → ColumnStored n k a p q → ColumnStored n (k + 1) b q r → ColumnStored n (k + 2) c r s → ColumnStored n (k + 3) d s t → FourStored n k a b c d p t
four_of n k a b c d p q r s t w x y z = record {
  first = z.others k (inl (omega arith)) ∙ y.others k (inl (omega arith)) ∙ x.others k (inl (omega arith)) ∙ w.here;
  second = z.others (k + 1) (inl (omega arith)) ∙ y.others (k + 1) (inl (omega arith)) ∙ x.here;
  third = z.others (k + 2) (inl (omega arith)) ∙ y.here;
  fourth = z.here;
  others = λ j g. z.others j (far 3 j g (omega arith)) ∙ y.others j (far 2 j g (omega arith)) ∙ x.others j (far 1 j g (omega arith)) ∙ w.others j (near j g);
  past = λ m g. z.past m (omega arith) ∙ y.past m (omega arith) ∙ x.past m (omega arith) ∙ w.past m (omega arith);
  long = z.long ∙ y.long ∙ x.long ∙ w.long;
}
  where
    far : (i j : ℕ) → (j < k) ⊎ (k + 4 ≤ j) → i ≤ 3 → (j < k + i) ⊎ (k + i < j)
    far i j (inl g) h = inl (omega arith)
    far i j (inr g) h = inr (omega arith)

    near : (j : ℕ) → (j < k) ⊎ (k + 4 ≤ j) → (j < k) ⊎ (k < j)
    near j (inl g) = inl g
    near j (inr g) = inr (omega arith)
