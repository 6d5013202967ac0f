-- Products and quotients of floats in units, by a factor that is not below 0: how far they are moved, and that they keep the order. Assumes nothing.
use mathlib.Core.Path.{◌≡◌, refl, sym, ap, ap₂, ◌∙◌, subst}
use mathlib.Core.Logic.{◌⊎◌, inl, inr}
use mathlib.Core.Bool.{Bool, true, false, not, cond, true≢false}
use Prim.Native.Nat.{ℕ, zero, suc, ◌+◌, ◌*◌, ◌^◌, ◌≤◌, ◌<◌, zero-le}
use native.Mathlib.Nat.{le_trans, le_of_eq, le_antisymm, lt_irrefl, zero-lt-suc, mul-one, one-mul, zero-mul, mul-mul-mul_comm, mul-le-mul, mul-le-mul_left, mul-le-mul_right, le_of_mul-le-mul_right, mul-pos, eq_of_mul-eq-mul_right}
use native.Mathlib.Omega.{arith}
use lib.Dec.{T, eqb, eqb→eq, lit≤}
use lib.Pow.{pow_pos}
use lib.IntN.{pos}
use lib.Ieee.{Float, nan, inf, fin, binary32, up, down, unlike, round, mul, div, eq, of_int, of_bits}
use lib.Ieee.Fits.{up_pos, down_pos}
use lib.Ieee.Exact.{HasValue}
use lib.Ieee.Scale.{grid}
use Rattle.grid.specs.Grid.{signed}
use Rattle.grid.specs.Values.{At}
use Rattle.grid.proofs.Exact.{eq_at, eq_z}
use Rattle.grid.specs.Floats.{nought, unity}
use Rattle.flex_reach.proofs.Rounding.{grid_mono, grid_held, grid_near}
use Rattle.flex_reach.proofs.Units.{px, px_pos, Num, side, far, far_is, fl, fl_zero, both, Held, round_num, grid_same, small}

-- ---- in units

-- a times b, both in units
unfoldable pub product : ℕ → ℕ → ℕ
product a b = grid binary32 (a * b) (px * px)

px² : 0 < px * px
px² = mul-pos px_pos px_pos

pub product_mono : (a b c d : ℕ) → a ≤ c → b ≤ d → product a b ≤ product c d
unfolding product
product_mono a b c d h k = grid_mono binary32 (a * b) (px * px) (c * d) (px * px) px² px² (mul-le-mul_right (px * px) (mul-le-mul h k))

-- by a factor of at most k
pub product_le : (a b k : ℕ) → b ≤ k * px → product a b ≤ fl (k * a)
unfolding product fl
product_le a b k h = grid_mono binary32 (a * b) (px * px) (k * a) px px² px_pos
    (le_trans (mul-le-mul_right px (mul-le-mul_left a h)) (le_of_eq (re a k px)))
  where
    re : (a k p : ℕ) → a * (k * p) * p ≡ k * a * (p * p)
    re a k p = omega arith

pub product_within : (a b : ℕ) → Held a → b ≤ px → product a b ≤ a
product_within a b p h = le_trans (product_le a b 1 (le_trans h (le_of_eq (sym (one-mul px))))) (le_of_eq (ap fl (one-mul a) ∙ p.stays))

pub product_zero : (b : ℕ) → product 0 b ≡ 0
unfolding product px
product_zero b = grid_held binary32 (0 * b) (2 ^ 149 * 2 ^ 149) 0 0 (mul-pos (pow_pos 149) (pow_pos 149)) zero-le
    (ap (λ (n : ℕ). n * 2 ^ 149) (zero-mul b) ∙ zero-mul (2 ^ 149) ∙ sym (ap (λ (n : ℕ). n * (2 ^ 149 * 2 ^ 149)) (zero-mul (2 ^ 0)) ∙ zero-mul (2 ^ 149 * 2 ^ 149)))

raw : (a b : ℕ) → (16777216 * (product a b * (px * px)) ≤ 16777216 * (a * b * px) + (a * b * px + 8388608 * (px * px))) × (16777216 * (a * b * px) ≤ 16777216 * (product a b * (px * px)) + (a * b * px + 8388608 * (px * px)))
unfolding product px
raw a b = grid_near binary32 (a * b) (2 ^ 149 * 2 ^ 149) (mul-pos (pow_pos 149) (pow_pos 149))

-- a / px * b, moved by at most 2 ^ -24 of it and half a unit
pub product_near : (a b : ℕ) → 16777216 * (product a b * px) ≤ 16777216 * (a * b) + (a * b + 8388608 * px)
product_near a b = le_of_mul-le-mul_right {k = px} (le_trans (le_of_eq (re (product a b) px)) (le_trans (raw a b).0 (le_of_eq (er (a * b) px)))) px_pos
  where
    re : (g p : ℕ) → 16777216 * (g * p) * p ≡ 16777216 * (g * (p * p))
    re g p = omega arith

    er : (n p : ℕ) → 16777216 * (n * p) + (n * p + 8388608 * (p * p)) ≡ (16777216 * n + (n + 8388608 * p)) * p
    er n p = omega arith

pub product_close : (a b : ℕ) → 16777216 * (a * b) ≤ 16777216 * (product a b * px) + (a * b + 8388608 * px)
product_close a b = le_of_mul-le-mul_right {k = px} (le_trans (le_of_eq (re (a * b) px)) (le_trans (raw a b).1 (le_of_eq (er (product a b) (a * b) px)))) px_pos
  where
    re : (n p : ℕ) → 16777216 * n * p ≡ 16777216 * (n * p)
    re n p = omega arith

    er : (g n p : ℕ) → 16777216 * (g * (p * p)) + (n * p + 8388608 * (p * p)) ≡ (16777216 * (g * p) + (n + 8388608 * p)) * p
    er g n p = omega arith

px_small : px ≤ 2 ^ 250
unfolding px
px_small = lit≤ tt

-- a over b, both in units
unfoldable pub quotient : ℕ → ℕ → ℕ
quotient a b = grid binary32 a b

pub quotient_within : (a b : ℕ) → 0 < b → a ≤ b → quotient a b ≤ px
unfolding quotient px
quotient_within a b B h = le_trans (grid_mono binary32 a b 1 1 B (zero-lt-suc 0) (le_trans (le_of_eq (mul-one a)) (le_trans h (le_of_eq (sym (one-mul b))))))
    (le_of_eq (grid_held binary32 1 1 1 149 (zero-lt-suc 0) (lit≤ tt) refl ∙ refl))

pub quotient_near : (a b : ℕ) → 0 < b → 16777216 * (quotient a b * b) ≤ 16777216 * (a * px) + (a * px + 8388608 * b)
unfolding quotient px
quotient_near a b B = (grid_near binary32 a b B).0

pub quotient_zero : (b : ℕ) → 0 < b → quotient 0 b ≡ 0
unfolding quotient
quotient_zero b B = grid_held binary32 0 b 0 0 B zero-le (zero-mul (2 ^ 149) ∙ sym (ap (λ (n : ℕ). n * b) (zero-mul (2 ^ 0)) ∙ zero-mul b))

-- ---- the product of two floats, the second not below 0

-- a number that is not below 0
not_below : (x : Float) (s : Bool) (n : ℕ) → HasValue x s n px → far true x ≡ 0 → ((s ≡ false) ⊎ (n ≡ 0)) × (far false x ≡ n)
not_below x true n v h = (inr (sym (far_is true x true n v) ∙ h), far_is false x true n v ∙ sym (sym (far_is true x true n v) ∙ h))
not_below x false n v h = (inl refl, far_is false x false n v)

side_of_zero : (g s : Bool) (z : ℕ) → z ≡ 0 → side g s z ≡ 0
side_of_zero true true z e = e
side_of_zero true false z e = refl
side_of_zero false true z e = refl
side_of_zero false false z e = e

signs : (g s t : Bool) (B z : ℕ) → (t ≡ false) ⊎ (B ≡ 0) → (B ≡ 0 → z ≡ 0) → side g (unlike s t) z ≡ side g s z
signs g s t B z (inr e) m = side_of_zero g (unlike s t) z (m e) ∙ sym (side_of_zero g s z (m e))
signs g s true B z (inl e) m = absurd (true≢false e)
signs true true false B z (inl e) m = refl
signs true false false B z (inl e) m = refl
signs false true false B z (inl e) m = refl
signs false false false B z (inl e) m = refl

product_zero' : (a b : ℕ) → b ≡ 0 → product a b ≡ 0
product_zero' a b e = ap (λ (n : ℕ). product a n) e ∙ swap a
  where
    swap : (a : ℕ) → product a 0 ≡ 0
    swap a = le_antisymm (le_trans (product_le a 0 0 zero-le) (le_of_eq (ap fl (zero-mul a) ∙ lib0))) zero-le
      where
        lib0 : fl 0 ≡ 0
        lib0 = fl_zero

pub record Product (x y z : Float) : Type 0 where
  pub num : Num z
  pub size : (g : Bool) → far g z ≡ product (far g x) (far false y)

product_of : (s t : Bool) (A B a c : ℕ) → 0 < c → a * (px * px) ≡ A * B * c → (t ≡ false) ⊎ (B ≡ 0) → B ≤ 1024 * px → A ≤ 2 ^ 239
    → Num (round binary32 (unlike s t) a c) × ((g : Bool) → far g (round binary32 (unlike s t) a c) ≡ product (side g s A) B)
unfolding product
product_of s t A B a c C e o k l =
    let z : Float = round binary32 (unlike s t) a c in
    let same : grid binary32 a c ≡ product A B = grid_same a c (A * B) (px * px) C px² e in
    let le : product A B ≤ 2 ^ 250 = le_trans (product_le A B 1024 k) (small (1024 * A) (mul-le-mul_left 1024 l)) in
    let r = round_num (unlike s t) a c C (subst (λ (n : ℕ). n ≤ 2 ^ 250) (sym same) le) in
    let v : HasValue z (unlike s t) (product A B) px = subst (λ (n : ℕ). HasValue z (unlike s t) n px) same r.1 in
    (r.0, λ g. far_is g z (unlike s t) (product A B) v ∙ signs g s t B (product A B) o (product_zero' A B) ∙ within g s)
  where
    within : (g s : Bool) → side g s (product A B) ≡ product (side g s A) B
    within true true = refl
    within true false = sym (product_zero B)
    within false true = sym (product_zero B)
    within false false = refl

pub mul_num : {x y : Float} → Num x → Num y → far true y ≡ 0 → far false y ≤ 1024 * px → far false x + far true x ≤ 2 ^ 239 → Product x y (mul binary32 x y)
unfolding mul
mul_num {x} {y} p q h k l = go x y p.value q.value h k l
  where
    A : ℕ
    A = p.digits * 2 ^ p.shift

    B : ℕ
    B = q.digits * 2 ^ q.shift

    go : (x y : Float) → HasValue x p.sign A px → HasValue y q.sign B px → far true y ≡ 0 → far false y ≤ 1024 * px → far false x + far true x ≤ 2 ^ 239 → Product x y (mul binary32 x y)
    go nan y v w h k l = absurd v
    go (inf i) y v w h k l = absurd v
    go (fin i m e) nan v w h k l = absurd w
    go (fin i m e) (inf j) v w h k l = absurd w
    go (fin i m e) (fin j n d) v w h k l =
        let b = not_below (fin j n d) q.sign B w h in
        let r = product_of p.sign q.sign A B (m * up e * (n * up d)) (down e * down d) (mul-pos (down_pos e) (down_pos d))
        (mul-mul-mul_comm (m * up e) (n * up d) px px ∙ ap₂ (λ (a b : ℕ). a * b) v.1 w.1 ∙ mul-mul-mul_comm A (down e) B (down d))
        b.0 (subst (λ (n : ℕ). n ≤ 1024 * px) b.1 k)
        (subst (λ (n : ℕ). n ≤ 2 ^ 239) (ap₂ (λ (a b : ℕ). a + b) (far_is false (fin i m e) p.sign A v) (far_is true (fin i m e) p.sign A v) ∙ both p.sign A) l) in
        subst (λ (u : Bool). Product (fin i m e) (fin j n d) (round binary32 u (m * up e * (n * up d)) (down e * down d))) (sym (ap₂ unlike v.0 w.0))
        (record { num = r.0; size = λ g. r.1 g ∙ ap₂ product (sym (far_is g (fin i m e) p.sign A v)) (sym b.1) })

-- a / de and b / db are A / p and B / p, so a / de over b / db is A over B
cross : (a db b da A B p : ℕ) → 0 < p → a * p ≡ A * da → b * p ≡ B * db → a * db * B ≡ A * (b * da)
cross a db b da A B p P e d = eq_of_mul-eq-mul_right p P (a * db * B) (A * (b * da))
    (re a db B p ∙ ap (λ (n : ℕ). n * (db * B)) e ∙ er A da db B ∙ ap (λ (n : ℕ). A * da * n) (sym d) ∙ ro A da b p)
  where
    re : (a db B p : ℕ) → a * db * B * p ≡ a * p * (db * B)
    re a db B p = omega arith

    er : (A da db B : ℕ) → A * da * (db * B) ≡ A * da * (B * db)
    er A da db B = omega arith

    ro : (A da b p : ℕ) → A * da * (b * p) ≡ A * (b * da) * p
    ro A da b p = omega arith

-- ---- the quotient of two floats, the first not below 0 and the second above it

pub record Quotient (x y z : Float) : Type 0 where
  pub num : Num z
  pub above : far false z ≡ quotient (far false x) (far false y)
  pub below : far true z ≡ 0

quotient_of : (s t : Bool) (A B a c : ℕ) → 0 < c → 0 < B → a * B ≡ A * c → (s ≡ false) ⊎ (A ≡ 0) → (t ≡ false) ⊎ (B ≡ 0) → A ≤ B
    → Num (round binary32 (unlike s t) a c) × (far false (round binary32 (unlike s t) a c) ≡ quotient A B) × (far true (round binary32 (unlike s t) a c) ≡ 0)
unfolding quotient
quotient_of s t A B a c C B0 e o u l =
    let z : Float = round binary32 (unlike s t) a c in
    let same : grid binary32 a c ≡ quotient A B = grid_same a c A B C B0 e in
    let r = round_num (unlike s t) a c C (subst (λ (n : ℕ). n ≤ 2 ^ 250) (sym same) (le_trans (quotient_within A B B0 l) px_small)) in
    let v : HasValue z (unlike s t) (quotient A B) px = subst (λ (n : ℕ). HasValue z (unlike s t) n px) same r.1 in
    (r.0, far_is false z (unlike s t) (quotient A B) v ∙ (way s t o u).0, far_is true z (unlike s t) (quotient A B) v ∙ (way s t o u).1)
  where
    none : A ≡ 0 → quotient A B ≡ 0
    none e = ap (λ (n : ℕ). quotient n B) e ∙ quotient_zero B B0

    no : B ≡ 0 → ⊥
    no e = omega arith

    way : (s t : Bool) → (s ≡ false) ⊎ (A ≡ 0) → (t ≡ false) ⊎ (B ≡ 0) → (side false (unlike s t) (quotient A B) ≡ quotient A B) × (side true (unlike s t) (quotient A B) ≡ 0)
    way s t o (inr e) = absurd (no e)
    way s true o (inl e) = absurd (true≢false e)
    way true false (inl d) (inl e) = absurd (true≢false d)
    way true false (inr d) (inl e) = (sym (none d), none d)
    way false false o (inl e) = (refl, refl)

pub div_num : {x y : Float} → Num x → Num y → far true x ≡ 0 → far true y ≡ 0 → 0 < far false y → far false x ≤ far false y → Quotient x y (div binary32 x y)
unfolding div
div_num {x} {y} p q f h k l = go x y p.value q.value f h k l
  where
    A : ℕ
    A = p.digits * 2 ^ p.shift

    B : ℕ
    B = q.digits * 2 ^ q.shift

    some : (n u p b d : ℕ) → 0 < b → n * u * p ≡ b * d → 0 < d → 0 < n
    some zero u p b d B0 e D = absurd (lt_irrefl 0 (subst (λ (k : ℕ). 0 < k) (sym e ∙ ap (λ (k : ℕ). k * p) (zero-mul u) ∙ zero-mul p) (mul-pos B0 D)))
    some (suc n) u p b d B0 e D = zero-lt-suc n

    nonzero : {X : Type 0} (n : ℕ) (a b : X) → 0 < n → cond (eqb n 0) a b ≡ b
    nonzero n a b h = go (eqb n 0) (eqb→eq n 0)
      where
        go : (c : Bool) → (T c → n ≡ 0) → cond c a b ≡ b
        go true e = absurd (no (e tt))
          where
            no : n ≡ 0 → ⊥
            no e = omega arith
        go false e = refl

    go : (x y : Float) → HasValue x p.sign A px → HasValue y q.sign B px → far true x ≡ 0 → far true y ≡ 0 → 0 < far false y → far false x ≤ far false y → Quotient x y (div binary32 x y)
    go nan y v w f h k l = absurd v
    go (inf i) y v w f h k l = absurd v
    go (fin i m e) nan v w f h k l = absurd w
    go (fin i m e) (inf j) v w f h k l = absurd w
    go (fin i m e) (fin j n d) v w f h k l =
        let a = not_below (fin i m e) p.sign A v f in
        let b = not_below (fin j n d) q.sign B w h in
        let B0 : 0 < B = subst (λ (n : ℕ). 0 < n) b.1 k in
        let n0 : 0 < n = some n (up d) px B (down d) B0 w.1 (down_pos d) in
        let r = quotient_of p.sign q.sign A B (m * up e * down d) (n * up d * down e) (mul-pos (mul-pos n0 (up_pos d)) (down_pos e)) B0
        (cross (m * up e) (down d) (n * up d) (down e) A B px px_pos v.1 w.1) a.0 b.0 (subst (λ (n : ℕ). n ≤ B) a.1 (subst (λ (n : ℕ). far false (fin i m e) ≤ n) b.1 l)) in
        subst (λ (z : Float). Quotient (fin i m e) (fin j n d) z) (sym (nonzero n (cond (eqb m 0) nan (inf (unlike i j))) (round binary32 (unlike i j) (m * up e * down d) (n * up d * down e)) n0))
        (subst (λ (u : Bool). Quotient (fin i m e) (fin j n d) (round binary32 u (m * up e * down d) (n * up d * down e))) (sym (ap₂ unlike v.0 w.0))
        (record { num = r.0; above = r.1 ∙ ap₂ quotient (sym a.1) (sym b.1); below = r.2 }))

-- ---- floats that the rules name

pub nought_num : Num nought × ((g : Bool) → far g nought ≡ 0)
unfolding of_bits px far
nought_num = (record { sign = false; digits = 0; shift = 0; few = zero-le; value = (refl, refl) }, λ g. zeroes g)
  where
    zeroes : (g : Bool) → far g (fin false 0 (pos 0)) ≡ 0
    zeroes true = refl
    zeroes false = refl

pub unity_num : Num unity × (far false unity ≡ px) × (far true unity ≡ 0)
unfolding of_bits px far
unity_num = (record { sign = false; digits = 1; shift = 149; few = lit≤ tt; value = (refl, refl) }, refl, refl)

-- a whole number of pixels
pub whole_num : (k : ℕ) → k ≤ 16777216 → Num (of_int binary32 (pos k)) × (far false (of_int binary32 (pos k)) ≡ k * px) × (far true (of_int binary32 (pos k)) ≡ 0)
unfolding of_int px
whole_num k h =
    let z : Float = round binary32 false k 1 in
    let g : grid binary32 k 1 ≡ k * 2 ^ 149 = grid_held binary32 k 1 k 149 (zero-lt-suc 0) h (sym (mul-one (k * 2 ^ 149))) in
    let r = round_num false k 1 (zero-lt-suc 0) (subst (λ (n : ℕ). n ≤ 2 ^ 250) (sym g) (le_trans (mul-le-mul_right (2 ^ 149) h) (lit≤ tt))) in
    (r.0, far_is false z false (grid binary32 k 1) r.1 ∙ g, far_is true z false (grid binary32 k 1) r.1)

-- ---- whether a number is 0.0

nought_at : At px nought (pos 0)
unfolding of_bits px
nought_at = record { sign = false; size = 0; value = (refl, refl); total = refl }

pub eq-nought : {x : Float} → Num x → (T (eq x nought) → (g : Bool) → far g x ≡ 0) × (T (not (eq x nought)) → 0 < far false x + far true x)
eq-nought {x} p =
    let A = p.digits * 2 ^ p.shift in
    let z = zero_test p.sign A in
    let e : eq x nought ≡ eq_z (signed p.sign A) (pos 0) = eq_at px px_pos (record { sign = p.sign; size = A; value = p.value; total = refl }) nought_at in (
      (λ t g. far_is g x p.sign A p.value ∙ side_of_zero g p.sign A (z.0 (subst T e t))),
      (λ t. subst (λ (n : ℕ). 0 < n) (sym (ap₂ (λ (a b : ℕ). a + b) (far_is false x p.sign A p.value) (far_is true x p.sign A p.value) ∙ both p.sign A)) (z.1 (subst (λ (b : Bool). T (not b)) e t))),
    )
  where
    zero_test : (s : Bool) (A : ℕ) → (T (eq_z (signed s A) (pos 0)) → A ≡ 0) × (T (not (eq_z (signed s A) (pos 0))) → 0 < A)
    zero_test false zero = ((λ t. refl), (λ t. absurd t))
    zero_test false (suc A) = ((λ t. eqb→eq (suc A) 0 t), (λ t. zero-lt-suc A))
    zero_test true zero = ((λ t. refl), (λ t. absurd t))
    zero_test true (suc A) = ((λ t. absurd t), (λ t. zero-lt-suc A))
