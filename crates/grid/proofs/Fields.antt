-- Which bits are those of a multiple of 1/64. With e from 1 up in the exponent's field a finite float is an odd number times 2 ^ (k + e - 150), where k is
-- the place of the lowest digit 1, the leading digit counted: on the grid exactly where k + e is at least 144. With e = 0 only a zero is. Assumes nothing.
use mathlib.Core.Path.{◌≡◌, refl, sym, ap, ap₂, ◌∙◌, subst}
use mathlib.Core.Logic.{◌⊎◌, inl, inr}
use mathlib.Core.Bool.{Bool, true, false, not, ◌&&◌, ◌||◌, cond}
use Prim.Native.Nat.{ℕ, zero, suc, ◌+◌, ◌-◌, ◌*◌, ◌/◌, ◌%◌, ◌^◌, ◌≤◌, ◌<◌}
use native.Mathlib.Nat.{eq-or-lt_of_le, le_of_suc-le-suc, le_of_lt, le_trans, le_of_eq, lt_of_lt_of_le, lt_of_le_of_lt, lt_of_not-le, not-le_of_lt, add-zero, one-mul, mul-one, mul_assoc, mul_right_comm, mul-mod_left, mod-one, mod-lt, mod-eq_of_lt, mod-mod_of_dvd, dvd-mul_right, eq_of_mul-eq-mul_right, div-add-mod'}
use native.Mathlib.Omega.{arith}
use lib.Dec.{T, leb, ltb, eqb, eqb→eq, le→leb, nltb→le, lit<, lit≤, eqb-suc-zero}
use lib.Bits.{bit_or, or_mod, or_block, or_zero_r}
use lib.Pow.{pow-add, pow_pos, pow_mono, mod-pow-add}
use lib.IntN.{ℤ, pos, negsuc}
use lib.Ieee.{Float, nan, inf, fin, binary32, up, down, odd, of_fields, of_bits, to_bits, of_int, in_float, round, size, fits, is_nan, lt}
use lib.Ieee.Digits.{Equals, odd_val}
use lib.Ieee.Fits.{down_pos, and_l, and_r}
use lib.Ieee.Scale.{finite}
use lib.Ieee.Bits.{is_true}
use borrow.Author.Tests.{eq-eqb, ne_eqb, eqb-false, le-ltb, lt-ltb, leb-true, leb-false}
use Rattle.grid.specs.Grid.{on_grid}
use Rattle.grid.specs.Bits.{Lowest}
use Rattle.grid.proofs.Meaning.{fits_size}
use Rattle.grid.proofs.Range.{two^}
use Rattle.grid.proofs.Lowest.{last, not_zero, power_divides, odd_divides, place_below, lowest_rest}

-- ---- a float that is a / c is on the grid where c divides 64 a
same_zero : (m n : ℕ) → (m ≡ 0 → n ≡ 0) → (n ≡ 0 → m ≡ 0) → eqb m 0 ≡ eqb n 0
same_zero zero n h k = sym (eq-eqb n 0 (h refl))
same_zero (suc m) n h k = eqb-suc-zero m ∙ sym (ne_eqb n 0 (λ e. eqb-false (suc m) 0 (eqb-suc-zero m) (k e)))

move : (M D a c : ℕ) → 0 < D → M * c ≡ a * D → M * 64 % D ≡ 0 → a * 64 % c ≡ 0
move M D a c d0 e h =
    let z = M * 64 / D in
    let v : M * 64 ≡ z * D = sym (div-add-mod' (M * 64) D) ∙ ap (λ (r : ℕ). z * D + r) h ∙ add-zero (z * D) in
    let w : a * 64 ≡ z * c = eq_of_mul-eq-mul_right D d0 (a * 64) (z * c) (mul_right_comm a 64 D ∙ ap (λ (k : ℕ). k * 64) (sym e) ∙ mul_right_comm M c 64 ∙ ap (λ (k : ℕ). k * c) v ∙ mul_right_comm z D c) in
    ap (λ (k : ℕ). k % c) w ∙ mul-mod_left z c

grid_equals : (v : Float) (a c : ℕ) → 0 < c → Equals v a c → on_grid v ≡ eqb (a * 64 % c) 0
unfolding on_grid
grid_equals nan a c p q = absurd q
grid_equals (inf s) a c p q = absurd q
grid_equals (fin s m e) a c p q = same_zero (m * up e * 64 % down e) (a * 64 % c) (move (m * up e) (down e) a c (down_pos e) q) (move a c (m * up e) (down e) p (sym q))

-- ---- the float of the digits q from place k on
grid_odd : (s : Bool) (q k : ℕ) → on_grid (odd 24 s q k 149) ≡ eqb (q * 2 ^ (k + 6) % 2 ^ 149) 0
grid_odd s q k = grid_equals (odd 24 s q k 149) (q * 2 ^ k) (2 ^ 149) (pow_pos 149) (odd_val 24 s q k 149) ∙ ap (λ (n : ℕ). eqb (n % 2 ^ 149) 0) (mul_assoc q (2 ^ k) 64 ∙ ap (λ (n : ℕ). q * n) (sym (pow-add 2 k 6)))

-- by the place of the lowest digit 1
grid_lowest : (s : Bool) (q m k e : ℕ) → q ≡ (m * 2 + 1) * 2 ^ k → on_grid (odd 24 s q e 149) ≡ leb 149 (k + (e + 6))
grid_lowest s q m k e h =
    grid_odd s q e
    ∙ ap (λ (n : ℕ). eqb (n % 2 ^ 149) 0) (ap (λ (n : ℕ). n * 2 ^ (e + 6)) h ∙ mul_assoc (m * 2 + 1) (2 ^ k) (2 ^ (e + 6)) ∙ ap (λ (n : ℕ). (m * 2 + 1) * n) (sym (pow-add 2 k (e + 6))))
    ∙ odd_divides m (k + (e + 6)) 149

-- with 0 in the exponent's field there is no leading digit, and only 0 is on the grid
grid_none : (s : Bool) (t : ℕ) → t < 8388608 → on_grid (odd 24 s t 0 149) ≡ eqb t 0
grid_none s t h =
    let u : t * 64 < 536870912 = omega (arith, h) in
    grid_odd s t 0 ∙ ap (λ (n : ℕ). eqb n 0) (mod-eq_of_lt (lt_of_lt_of_le u (pow_mono {i = 29} {j = 149} (lit≤ tt)))) ∙ same_zero (t * 64) t (λ e. omega (arith, e)) (λ e. omega (arith, e))

-- ---- the test of the code, by the place k of the lowest digit 1 and the bits d without the sign
abbrev pub tested : ℕ → ℕ → Bool
tested k d = ltb 270 (k + 127 + d / 8388608) || eqb d 0

far_enough : (k e : ℕ) → leb 149 (k + (e + 6)) ≡ ltb 270 (k + 127 + suc e)
far_enough k e = go (leb 149 (k + (e + 6))) refl
  where
    go : (b : Bool) → leb 149 (k + (e + 6)) ≡ b → b ≡ ltb 270 (k + 127 + suc e)
    go true h = sym (lt-ltb 270 (k + 127 + suc e) (omega (arith, leb-true 149 (k + (e + 6)) h)))
    go false h = sym (le-ltb 270 (k + 127 + suc e) (omega (arith, leb-false 149 (k + (e + 6)) h)))

or_false : (b : Bool) → (b || false) ≡ b
or_false true = refl
or_false false = refl

not_finite : (b : Bool) (s : Bool) → finite (cond b (inf s) nan) ≡ true → ⊥
not_finite true s h = subst T (sym h) tt
not_finite false s h = subst T (sym h) tt

-- by the fields of the exponent, e, and of the digits, t
fields_grid : (s : Bool) (e t m k : ℕ) → 8388608 + t ≡ (m * 2 + 1) * 2 ^ k → k < 24 → t < 8388608 → finite (of_fields binary32 s e t) ≡ true
    → on_grid (of_fields binary32 s e t) ≡ (ltb 270 (k + 127 + e) || eqb (e * 8388608 + t) 0)
unfolding of_fields
fields_grid s zero t m k q p h f =
    let z : t ≡ 0 * 8388608 + t = omega arith in
    grid_none s t h ∙ ap (λ (n : ℕ). eqb n 0) z ∙ sym (ap (λ (b : Bool). b || eqb (0 * 8388608 + t) 0) (le-ltb 270 (k + 127 + 0) (omega (arith, p))))
fields_grid s (suc e) t m k q p h f = go (eqb (suc e) 255) f
  where
    go : (b : Bool) → finite (cond b (cond (eqb t 0) (inf s) nan) (odd 24 s (8388608 + t) e 149)) ≡ true
        → on_grid (cond b (cond (eqb t 0) (inf s) nan) (odd 24 s (8388608 + t) e 149)) ≡ (ltb 270 (k + 127 + suc e) || eqb (suc e * 8388608 + t) 0)
    go true g = absurd (not_finite (eqb t 0) s g)
    go false g =
        grid_lowest s (8388608 + t) m k e q
        ∙ far_enough k e
        ∙ sym (ap (λ (b : Bool). ltb 270 (k + 127 + suc e) || b) (not_zero (suc e * 8388608 + t) (omega arith)) ∙ or_false (ltb 270 (k + 127 + suc e)))

-- ---- the bits b with the leading digit, which are q but for what stands above it
pub with_lead : (b : ℕ) → bit_or b 8388608 % 2 ^ 24 ≡ 8388608 + b % 8388608
with_lead b =
    or_mod b 8388608 24
    ∙ ap (λ (n : ℕ). bit_or n 8388608) (mod-pow-add b 1 23)
    ∙ or_block 23 (b / 8388608 % 2) 1 (b % 8388608) 0 (mod-lt b (lit< tt)) (lit< tt)
    ∙ ap₂ (λ (n t : ℕ). n * 8388608 + t) (one (b / 8388608 % 2) (last (b / 8388608))) (or_zero_r (b % 8388608))
  where
    one : (d : ℕ) → (d ≡ 0) ⊎ (d ≡ 1) → bit_or d 1 ≡ 1
    one d (inl e) = ap (λ (n : ℕ). bit_or n 1) e
    one d (inr e) = ap (λ (n : ℕ). bit_or n 1) e

module _ (b q : ℕ) (e : q % 16777216 ≡ 8388608 + b % 8388608) where
  pub lead_some : 0 < q
  lead_some = omega (arith, e)

  module _ (r : ℕ) (l : Lowest q r) where
    pub lead_place : l.place < 24
    lead_place = place_below 24 l (omega (arith, e))

    pub bits_grid : finite (of_bits binary32 b) ≡ true → tested l.place (b % 2147483648) ≡ on_grid (of_bits binary32 b)
    unfolding of_bits
    bits_grid f =
        let d = b % 2147483648 in
        ap (λ (n : ℕ). ltb 270 (l.place + 127 + d / 8388608) || eqb n 0) (sym (ap (λ (n : ℕ). d / 8388608 * 8388608 + n) (sym (mod-mod_of_dvd 8388608 b (dvd-mul_right 8388608 256))) ∙ div-add-mod' d 8388608))
        ∙ sym (fields_grid (leb 2147483648 b) (d / 8388608) (b % 8388608) ((l.above * 2 + 1) % 2 ^ (24 - l.place) / 2) l.place (sym e ∙ lowest_rest 24 l lead_place) lead_place (mod-lt b (lit< tt)) f)

-- ---- the float of a power of 2: no NaN, with no digits beside its exponent's field. One test of the 24 places, computed.
abbrev tried : (ℕ → Bool) → ℕ → Bool
tried f zero = true
tried f (suc n) = f n && tried f n

tried_at : (f : ℕ → Bool) (n : ℕ) → T (tried f n) → (k : ℕ) → k < n → T (f k)
tried_at f zero t k h = absurd (omega arith)
tried_at f (suc n) t k h = elim (eq-or-lt_of_le (le_of_suc-le-suc h)) [
  | inl e ↦ subst (λ (i : ℕ). T (f i)) (sym e) (and_l (f n) (tried f n) t)
  | inr l ↦ tried_at f n (and_r (f n) (tried f n) t) k l
]

abbrev float : ℕ → Float
float k = of_int binary32 (pos (2 ^ k))

abbrev plain : ℕ → Bool
plain k = not (is_nan (float k)) && eqb (to_bits binary32 (float k)) ((k + 127) * 8388608)

all_plain : T (tried plain 24)
unfolding to_bits of_int round size is_nan
all_plain = tt

pub power_real : (k : ℕ) → k < 24 → T (not (is_nan (of_int binary32 (pos (2 ^ k)))))
power_real k h = and_l (not (is_nan (float k))) (eqb (to_bits binary32 (float k)) ((k + 127) * 8388608)) (tried_at plain 24 all_plain k h)

pub power_bits : (k : ℕ) → k < 24 → to_bits binary32 (of_int binary32 (pos (2 ^ k))) ≡ (k + 127) * 8388608
power_bits k h =
    eqb→eq (to_bits binary32 (float k)) ((k + 127) * 8388608) (and_r (not (is_nan (float k))) (eqb (to_bits binary32 (float k)) ((k + 127) * 8388608)) (tried_at plain 24 all_plain k h))

pub power_in : (k : ℕ) → k < 24 → T (in_float binary32 (pos (2 ^ k)))
unfolding in_float
power_in k h = le→leb (2 ^ k) 16777216 (pow_mono {i = k} {j = 24} (le_of_lt h))

-- ---- from 131,072 px up every finite float is on the grid
large : (m : ℕ) (e : ℤ) → m < 2 ^ 24 → 2 ^ 17 * down e ≤ m * up e → m * up e * 64 % down e ≡ 0
large m (pos k) h l = mod-one (m * 2 ^ k * 64)
large m (negsuc k) h l =
    let a : 2 ^ (17 + suc k) < 2 ^ 24 = lt_of_le_of_lt (le_trans (le_of_eq (pow-add 2 17 (suc k))) (le_trans l (le_of_eq (mul-one m)))) h in
    let b : 17 + suc k < 24 = lt_of_not-le (λ (g : 24 ≤ 17 + suc k). not-le_of_lt a (pow_mono g)) in
    ap (λ (n : ℕ). n * 64 % 2 ^ suc k) (mul-one m) ∙ power_divides m 6 (suc k) (omega (arith, b))

over : (m : ℕ) (e : ℤ) → lt (fin false m e) (two^ 17) ≡ false → 2 ^ 17 * down e ≤ m * up e
unfolding lt
over m e h = simp (mul-one, one-mul) at (nltb→le (m * up e * 1) (1 * 2 ^ 17 * down e) (subst (λ (b : Bool). T (not b)) (sym h) tt))

pub far_grid : (x : Float) → T (fits binary32 x) → finite x ≡ true → lt x (two^ 17) ≡ false → on_grid x ≡ true
unfolding on_grid lt
far_grid nan t f h = absurd (subst T (sym f) tt)
far_grid (inf s) t f h = absurd (subst T (sym f) tt)
far_grid (fin true m e) t f h = absurd (subst T (sym (lt-ltb 0 (m * up e * 1 + 1 * 2 ^ 17 * down e) (omega (arith, down_pos e))) ∙ h) tt)
far_grid (fin false m e) t f h = is_true (eqb (m * up e * 64 % down e) 0) (subst (λ (n : ℕ). T (eqb n 0)) (sym (large m e (fits_size binary32 false m e t).0 (over m e h))) tt)

-- what is not finite is not on the grid
pub finite_grid : (x : Float) (b : Bool) → (finite x ≡ true → b ≡ on_grid x) → (finite x && b) ≡ on_grid x
unfolding on_grid
finite_grid nan b h = refl
finite_grid (inf s) b h = refl
finite_grid (fin s m e) b h = h refl
