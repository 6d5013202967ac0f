-- What a round shares out, in units: the remaining free space, or the part of the initial one that the factors leave; and the sum of the weights. Assumes nothing.
use mathlib.Core.Path.{◌≡◌, refl, ap₂, ◌∙◌}
use mathlib.Core.Logic.{◌⊎◌, inl, inr}
use mathlib.Core.Bool.{Bool, true, false, not, cond, ◌&&◌}
use mathlib.Core.List.{List, [], ◌∷◌}
use Prim.Native.Nat.{ℕ, suc, ◌+◌, ◌*◌, ◌^◌, ◌≤◌, ◌<◌}
use native.Mathlib.Nat.{le_refl, le_trans, le_of_eq, mul-le-mul_right}
use native.Mathlib.Omega.{arith}
use lib.Dec.{T, lit≤}
use lib.ListN.{length}
use lib.Ieee.{Float, lt, neg}
use Rattle.flex.proofs.Falls.{all_map}
use Rattle.grid.specs.Floats.{nought, unity, ◌⊗◌}
use Rattle.flex.specs.Flex.{Cell, magnitude, limited, left, total, factor, weight}
use Rattle.flex.proofs.Signs.{All}
use Rattle.flex_reach.proofs.Units.{px, Num, far, one_side, neg_num, lt_num}
use Rattle.flex_reach.proofs.Times.{product, Product, mul_num, nought_num, unity_num}
use Rattle.flex_reach.proofs.Totals.{count, count_most, count_long, Above, total_above}
use Rattle.flex_reach.proofs.Turn.{under, factor_num, weight_num}
use Rattle.flex_reach.proofs.Space.{Sound}

-- ---- the smaller in magnitude

magnitude_num : {x : Float} → Num x → Num (magnitude x) × (far true (magnitude x) ≡ 0) × (far false (magnitude x) ≡ far false x + far true x)
magnitude_num {x} p = go (lt x nought) (lt_num p nought_num.0).0 (lt_num p nought_num.0).1 (one_side p true) (nought_num.1 false) (nought_num.1 true)
  where
    n : Num (neg x) × ((g : Bool) → far g (neg x) ≡ far (not g) x)
    n = neg_num p

    go : (b : Bool) → (T b → far false x + far true nought < far false nought + far true x) → (T (not b) → far false nought + far true x ≤ far false x + far true nought) → (far true x ≡ 0) ⊎ (far false x ≡ 0)
        → far false nought ≡ 0 → far true nought ≡ 0 → Num (cond b (neg x) x) × (far true (cond b (neg x) x) ≡ 0) × (far false (cond b (neg x) x) ≡ far false x + far true x)
    go true l m (inl e) f t = let k = l tt in absurd (omega arith)
    go true l m (inr e) f t = (n.0, n.1 true ∙ e, n.1 false ∙ (omega arith))
    go false l m (inl e) f t = (p, e, omega arith)
    go false l m (inr e) f t = let k = m tt in (p, omega arith, omega arith)

-- F is the free space that is shared out, of the initial I, the factors' sum S and the remaining R
pub record Limited (I S R F : Float) : Type 0 where
  pub num : Num F
  pub under : far false F + far true F ≤ far false R + far true R
  pub under-part : far false S < px → far false F + far true F ≤ product (far false I) (far false S) + product (far true I) (far false S)
  pub which : (F ≡ R) ⊎ ((far false S < px) × ((g : Bool) → far g F ≡ product (far g I) (far false S)))

pub limited_num : {I S R : Float} → Num I → far false I + far true I ≤ 2 ^ 239 → Num S → far true S ≡ 0 → Num R → Limited I S R (limited I S R)
unfolding limited
limited_num {I} {S} {R} p l q n r = go (lt S unity) (lt_num q unity_num.0).0 (lt_num q unity_num.0).1
  where
    one : far false unity ≡ px
    one = unity_num.1

    no : far true unity ≡ 0
    no = unity_num.2

    small : (s s' u u' p : ℕ) → s + u' < u + s' → u ≡ p → u' ≡ 0 → s' ≡ 0 → s < p
    small s s' u u' p h a b c = omega arith

    large : (s s' u u' p : ℕ) → u + s' ≤ s + u' → u ≡ p → u' ≡ 0 → s' ≡ 0 → s < p → ⊥
    large s s' u u' p h a b c d = omega arith

    wide : (s p : ℕ) → s < p → s ≤ 1024 * p
    wide s p h = omega arith

    less : (a a' b b' x y x' y' : ℕ) → a + b' < b + a' → a' ≡ 0 → b' ≡ 0 → a ≡ x + x' → b ≡ y + y' → x + x' ≤ y + y'
    less a a' b b' x y x' y' h e f k l = omega arith

    more : (a a' b b' x y x' y' : ℕ) → b + a' ≤ a + b' → a' ≡ 0 → b' ≡ 0 → a ≡ x + x' → b ≡ y + y' → y + y' ≤ x + x'
    more a a' b b' x y x' y' h e f k l = omega arith

    second : (b : Bool) (P : Float) → Product I S P → far false S < px → (T b → far false (magnitude P) + far true (magnitude R) < far false (magnitude R) + far true (magnitude P))
        → (T (not b) → far false (magnitude R) + far true (magnitude P) ≤ far false (magnitude P) + far true (magnitude R)) → Limited I S R (cond b P R)
    second true P D h t f =
        let mp = magnitude_num D.num in
        let mr = magnitude_num r in
        record {
          num = D.num;
          under = less (far false (magnitude P)) (far true (magnitude P)) (far false (magnitude R)) (far true (magnitude R)) (far false P) (far false R) (far true P) (far true R) (t tt) mp.1 mr.1 mp.2 mr.2;
          under-part = λ k. le_of_eq (ap₂ (λ (a b : ℕ). a + b) (D.size false) (D.size true));
          which = inr (h, D.size);
        }
    second false P D h t f =
        let mp = magnitude_num D.num in
        let mr = magnitude_num r in
        record {
          num = r;
          under = le_refl (far false R + far true R);
          under-part = λ k. le_trans (more (far false (magnitude P)) (far true (magnitude P)) (far false (magnitude R)) (far true (magnitude R)) (far false P) (far false R) (far true P) (far true R) (f tt) mp.1 mr.1 mp.2 mr.2) (le_of_eq (ap₂ (λ (a b : ℕ). a + b) (D.size false) (D.size true)));
          which = inl refl;
        }

    go : (a : Bool) → (T a → far false S + far true unity < far false unity + far true S) → (T (not a) → far false unity + far true S ≤ far false S + far true unity)
        → Limited I S R (cond (a && lt (magnitude (I ⊗ S)) (magnitude R)) (I ⊗ S) R)
    go true t f =
        let h = small (far false S) (far true S) (far false unity) (far true unity) px (t tt) one no n in
        let D : Product I S (I ⊗ S) = mul_num p q n (wide (far false S) px h) l in
        second (lt (magnitude (I ⊗ S)) (magnitude R)) (I ⊗ S) D h (lt_num (magnitude_num D.num).0 (magnitude_num r).0).0 (lt_num (magnitude_num D.num).0 (magnitude_num r).0).1
    go false t f = record {
      num = r;
      under = le_refl (far false R + far true R);
      under-part = λ k. absurd (large (far false S) (far true S) (far false unity) (far true unity) px (f tt) one no n k);
      which = inl refl;
    }

-- ---- the unfrozen of a line

pub all_left : (P : Cell → Type 0) (l : List Cell) → All P l → All (λ c. P c × (c.frozen ≡ false)) (left l)
unfolding left
all_left P [] h = tt
all_left P (c ∷ l) h = go c.frozen refl (all_left P l h.1)
  where
    go : (b : Bool) → c.frozen ≡ b → All (λ c. P c × (c.frozen ≡ false)) (left l) → All (λ c. P c × (c.frozen ≡ false)) (cond b (left l) (c ∷ left l))
    go true e r = r
    go false e r = ((h.0, e), r)

pub left_short : (l : List Cell) → length (left l) ≤ length l
unfolding left
left_short [] = le_refl 0
left_short (c ∷ l) = go c.frozen (left_short l)
  where
    go : (b : Bool) → length (left l) ≤ length l → length (cond b (left l) (c ∷ left l)) ≤ suc (length l)
    go true h = omega arith
    go false h = omega arith

pub factors_big : 33554432 * px ≤ 2 ^ 248
factors_big = under 33554432 (lit≤ tt) (le_refl (33554432 * px))

pub weights_big : 33554432 * (65536 * px) ≤ 2 ^ 248
weights_big = under 2199023255552 (lit≤ tt) (le_of_eq (re px))
  where
    re : (p : ℕ) → 33554432 * (65536 * p) ≡ 2199023255552 * p
    re p = omega arith

module _ (g : Bool) (cells : List Cell) (ok : All (Sound g) cells) (n : length cells ≤ 1024) where
  n_left : length (left cells) ≤ 1024
  n_left = le_trans (left_short cells) n

  pub factors : Above px factors_big (λ c. factor g c.item) nought (left cells) (total (λ c. factor g c.item) (left cells))
  factors = total_above px factors_big (λ c. factor g c.item) nought (left cells) nought_num.0 (nought_num.1 true)
      (all_map (λ c s. ((factor_num s.0.item g).num, (factor_num s.0.item g).above)) (left cells) (all_left (Sound g) cells ok))
      (fits (far false nought) (count (λ c. far false (factor g c.item)) (left cells)) (count (λ c. px) (left cells)) px (nought_num.1 false)
      (count_most (λ c. far false (factor g c.item)) (1024 * px) 1024 (left cells) (all_map (λ c s. (factor_num s.0.item g).most) (left cells) (all_left (Sound g) cells ok)) n_left)
      (le_trans (le_of_eq (count_long px (left cells))) (mul-le-mul_right px n_left)))
    where
      fits : (s c d p : ℕ) → s ≡ 0 → c ≤ 1024 * (1024 * p) → d ≤ 1024 * p → s + c + d ≤ 16777216 * p
      fits s c d p e h k = omega arith

  pub weights : Above (65536 * px) weights_big (λ c. weight g c.item) nought (left cells) (total (λ c. weight g c.item) (left cells))
  weights = total_above (65536 * px) weights_big (λ c. weight g c.item) nought (left cells) nought_num.0 (nought_num.1 true)
      (all_map (λ c s. ((weight_num s.0.item g).num, (weight_num s.0.item g).above)) (left cells) (all_left (Sound g) cells ok))
      (fits (far false nought) (count (λ c. far false (weight g c.item)) (left cells)) (count (λ c. 65536 * px) (left cells)) px (nought_num.1 false)
      (count_most (λ c. far false (weight g c.item)) (536870912 * px) 1024 (left cells) (all_map (λ c s. (weight_num s.0.item g).most) (left cells) (all_left (Sound g) cells ok)) n_left)
      (le_trans (le_of_eq (count_long (65536 * px) (left cells))) (mul-le-mul_right (65536 * px) n_left)))
    where
      fits : (s c d p : ℕ) → s ≡ 0 → c ≤ 1024 * (536870912 * p) → d ≤ 1024 * (65536 * p) → s + c + d ≤ 16777216 * (65536 * p)
      fits s c d p e h k = omega arith
