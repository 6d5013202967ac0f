-- Finite floats of 32 bits as whole numbers of units, 2 ^ 149 of them to a pixel: `far false x` of them above 0 or `far true x` below it.
-- How such a number is rounded, and what the other sign and a comparison are in units. Assumes nothing.
use mathlib.Core.Path.{◌≡◌, refl, sym, ap, ap₂, ◌∙◌, subst}
use mathlib.Core.Logic.{◌⊎◌, inl, inr}
use mathlib.Core.Bool.{Bool, true, false, not, cond, beq}
use Prim.Native.Nat.{ℕ, zero, suc, ◌+◌, ◌*◌, ◌/◌, ◌^◌, ◌≤◌, ◌<◌, zero-le}
use native.Mathlib.Nat.{le_of_eq, le_antisymm, lt_of_le_of_lt, add-zero, zero-add, zero-mul, mul-le-mul_right, mul-div_cancel}
use native.Mathlib.Omega.{arith}
use lib.Dec.{T, ltb→lt, nltb→le, lit<}
use lib.Pow.{pow_pos}
use lib.Signed.{lt_z}
use lib.Ieee.{Float, nan, inf, fin, binary32, up, down, round, neg, lt}
use lib.Ieee.Fits.{down_pos, round_is}
use lib.Ieee.Exact.{HasValue, units_val}
use lib.Ieee.Order.{drop, kept}
use lib.Ieee.Scale.{grid}
use Rattle.grid.specs.Grid.{signed}
use Rattle.grid.specs.Values.{At}
use Rattle.grid.proofs.Exact.{lt_at}
use Rattle.flex_reach.proofs.Rounding.{kept-le, grid_mono, grid_held, grid_near_whole}

-- ---- units

-- a pixel
unfoldable pub px : ℕ
px = 2 ^ 149

pub px_pos : 0 < px
unfolding px
px_pos = pow_pos 149

-- x is finite, and a number of units with at most 24 digits before its zeros
pub record Num (x : Float) : Type 0 where
  pub sign : Bool
  pub digits : ℕ
  pub shift : ℕ
  pub few : digits ≤ 16777216
  pub value : HasValue x sign (digits * 2 ^ shift) px

-- n on the side g of 0, where the number's side is s
abbrev pub side : Bool → Bool → ℕ → ℕ
side g s n = cond (beq s g) n 0

-- how many units x is above 0 (false) or below it (true)
unfoldable pub far : Bool → Float → ℕ
far g nan = 0
far g (inf s) = 0
far g (fin s m e) = side g s (m * up e * px / down e)

pub far_is : (g : Bool) (x : Float) (s : Bool) (n : ℕ) → HasValue x s n px → far g x ≡ side g s n
unfolding far
far_is g nan s n v = absurd v
far_is g (inf t) s n v = absurd v
far_is g (fin t m e) s n v = ap₂ (λ (b : Bool) (k : ℕ). side g b k) v.0 (ap (λ (k : ℕ). k / down e) v.1 ∙ mul-div_cancel n (down_pos e))

-- ---- rounding to a number of units

unfoldable pub fl : ℕ → ℕ
fl n = grid binary32 n px

-- the number n / c of pixels, in units, rounded
module _ (g : Bool) (a c : ℕ) (C : 0 < c) where
  pub round_num : grid binary32 a c ≤ 2 ^ 250 → Num (round binary32 g a c) × HasValue (round binary32 g a c) g (grid binary32 a c) px
  unfolding px
  round_num h =
      let v : HasValue (round binary32 g a c) g (grid binary32 a c) (2 ^ 149) = subst (λ (z : Float). HasValue z g (grid binary32 a c) (2 ^ 149)) (sym (round_is binary32 g a c))
      (units_val binary32 g (kept 24 (a * 2 ^ 149) c) (drop 24 (a * 2 ^ 149) c) (lt_of_le_of_lt h (lit< tt))) in
      (record { sign = g; digits = kept 24 (a * 2 ^ 149) c; shift = drop 24 (a * 2 ^ 149) c; few = kept-le 24 (a * 2 ^ 149) c; value = v }, v)

pub grid_same : (a b c d : ℕ) → 0 < b → 0 < d → a * d ≡ c * b → grid binary32 a b ≡ grid binary32 c d
grid_same a b c d B D e = le_antisymm (grid_mono binary32 a b c d B D (le_of_eq e)) (grid_mono binary32 c d a b D B (le_of_eq (sym e)))

-- 2 ^ -24 at most, of the number or of what it is rounded to
pub fl_near : (n : ℕ) → (16777216 * fl n ≤ 16777216 * n + n) × (16777216 * n ≤ 16777216 * fl n + n) × (16777216 * n ≤ 16777216 * fl n + fl n)
unfolding px fl
fl_near n = grid_near_whole binary32 n (2 ^ 149) (pow_pos 149) n refl

pub fl_mono : (m n : ℕ) → m ≤ n → fl m ≤ fl n
unfolding fl
fl_mono m n h = grid_mono binary32 m px n px px_pos px_pos (mul-le-mul_right px h)

pub fl_held : (q j : ℕ) → q ≤ 16777216 → fl (q * 2 ^ j) ≡ q * 2 ^ j
unfolding px fl
fl_held q j h = grid_held binary32 (q * 2 ^ j) (2 ^ 149) q j (pow_pos 149) h refl

-- n units, where the format holds them
pub record Held (n : ℕ) : Type 0 where
  pub stays : fl n ≡ n

pub held_num : {x : Float} → Num x → (g : Bool) → Held (far g x)
held_num {x} p g = record { stays = subst (λ (n : ℕ). fl n ≡ n) (sym (far_is g x p.sign (p.digits * 2 ^ p.shift) p.value)) (go (beq p.sign g)) }
  where
    go : (b : Bool) → fl (cond b (p.digits * 2 ^ p.shift) 0) ≡ cond b (p.digits * 2 ^ p.shift) 0
    go true = fl_held p.digits p.shift p.few
    go false = subst (λ (n : ℕ). fl n ≡ n) (zero-mul (2 ^ 0)) (fl_held 0 0 zero-le)

pub small : (n : ℕ) → n ≤ 2 ^ 249 → fl n ≤ 2 ^ 250
small n h = go n (fl n) (2 ^ 249) (2 ^ 250) h (fl_near n).0 refl
  where
    go : (n m b c : ℕ) → n ≤ b → 16777216 * m ≤ 16777216 * n + n → c ≡ 2 * b → m ≤ c
    go n m b c h l e = omega arith

pub fl_zero : fl 0 ≡ 0
fl_zero = fl_none (fl 0) (fl_near 0).0
  where
    fl_none : (m : ℕ) → 16777216 * m ≤ 16777216 * 0 + 0 → m ≡ 0
    fl_none m h = omega arith

pub side_own : (g : Bool) (n : ℕ) → side g g n ≡ n
side_own true n = refl
side_own false n = refl

pub side_other : (g : Bool) (n : ℕ) → side (not g) g n ≡ 0
side_other true n = refl
side_other false n = refl

-- the size of a number, whichever its side
pub both : (s : Bool) (n : ℕ) → side false s n + side true s n ≡ n
both true n = zero-add n
both false n = add-zero n

-- a number is on one side of 0 at most
pub one_side : {x : Float} → Num x → (g : Bool) → (far g x ≡ 0) ⊎ (far (not g) x ≡ 0)
one_side {x} p g = go p.sign (p.digits * 2 ^ p.shift) p.value g
  where
    go : (s : Bool) (n : ℕ) → HasValue x s n px → (g : Bool) → (far g x ≡ 0) ⊎ (far (not g) x ≡ 0)
    go true n v true = inr (far_is false x true n v)
    go true n v false = inl (far_is false x true n v)
    go false n v true = inl (far_is true x false n v)
    go false n v false = inr (far_is true x false n v)

-- ---- the other sign; the difference

pub neg_num : {x : Float} → Num x → Num (neg x) × ((g : Bool) → far g (neg x) ≡ far (not g) x)
unfolding neg
neg_num {x} p =
    let v : HasValue (neg x) (not p.sign) (p.digits * 2 ^ p.shift) px = turn x p.sign (p.digits * 2 ^ p.shift) p.value in (
      record { sign = not p.sign; digits = p.digits; shift = p.shift; few = p.few; value = v },
      λ g. far_is g (neg x) (not p.sign) (p.digits * 2 ^ p.shift) v ∙ flip g p.sign (p.digits * 2 ^ p.shift) ∙ sym (far_is (not g) x p.sign (p.digits * 2 ^ p.shift) p.value),
    )
  where
    turn : (x : Float) (s : Bool) (n : ℕ) → HasValue x s n px → HasValue (neg x) (not s) n px
    turn nan s n v = v
    turn (inf t) s n v = v
    turn (fin t m e) s n v = (ap not v.0, v.1)

    flip : (g s : Bool) (n : ℕ) → side g (not s) n ≡ side (not g) s n
    flip true true n = refl
    flip true false n = refl
    flip false true n = refl
    flip false false n = refl

-- ---- comparisons

At-of : {x : Float} (p : Num x) → At px x (signed p.sign (p.digits * 2 ^ p.shift))
At-of p = record { sign = p.sign; size = p.digits * 2 ^ p.shift; value = p.value; total = refl }

less : (s : Bool) (A : ℕ) (t : Bool) (B : ℕ) → (T (lt_z (signed s A) (signed t B)) → side false s A + side true t B < side false t B + side true s A) × (T (not (lt_z (signed s A) (signed t B))) → side false t B + side true s A ≤ side false s A + side true t B)
less false A false B = (λ t. to A B (ltb→lt A B t), λ t. back A B (nltb→le A B t))
  where
    to : (A B : ℕ) → A < B → A + 0 < B + 0
    to A B h = omega arith

    back : (A B : ℕ) → B ≤ A → B + 0 ≤ A + 0
    back A B h = omega arith
less false A true zero = (λ t. absurd (no (ltb→lt A 0 t)), λ t. omega arith)
  where
    no : A < 0 → ⊥
    no h = omega arith
less false A true (suc B) = (λ t. absurd t, λ t. omega arith)
less true zero false B = (λ t. to B (ltb→lt 0 B t), λ t. back B (nltb→le 0 B t))
  where
    to : (B : ℕ) → 0 < B → 0 + 0 < B + 0
    to B h = omega arith

    back : (B : ℕ) → B ≤ 0 → B + 0 ≤ 0 + 0
    back B h = omega arith
less true (suc A) false B = (λ t. omega arith, λ t. absurd t)
less true zero true zero = (λ t. absurd t, λ t. omega arith)
less true zero true (suc B) = (λ t. absurd t, λ t. omega arith)
less true (suc A) true zero = (λ t. omega arith, λ t. absurd t)
less true (suc A) true (suc B) = (λ t. to A B (ltb→lt B A t), λ t. back A B (nltb→le B A t))
  where
    to : (A B : ℕ) → B < A → 0 + suc B < 0 + suc A
    to A B h = omega arith

    back : (A B : ℕ) → A ≤ B → 0 + suc A ≤ 0 + suc B
    back A B h = omega arith

pub lt_num : {x y : Float} → Num x → Num y → (T (lt x y) → far false x + far true y < far false y + far true x) × (T (not (lt x y)) → far false y + far true x ≤ far false x + far true y)
lt_num {x} {y} p q =
    let A = p.digits * 2 ^ p.shift in
    let B = q.digits * 2 ^ q.shift in
    subst (λ (b : Bool). (T b → far false x + far true y < far false y + far true x) × (T (not b) → far false y + far true x ≤ far false x + far true y)) (sym (lt_at px px_pos (At-of p) (At-of q)))
    (subst (λ (n : ℕ). (T (lt_z (signed p.sign A) (signed q.sign B)) → n + far true y < far false y + far true x) × (T (not (lt_z (signed p.sign A) (signed q.sign B))) → far false y + far true x ≤ n + far true y)) (sym (far_is false x p.sign A p.value))
    (subst (λ (n : ℕ). (T (lt_z (signed p.sign A) (signed q.sign B)) → side false p.sign A + far true y < far false y + n) × (T (not (lt_z (signed p.sign A) (signed q.sign B))) → far false y + n ≤ side false p.sign A + far true y)) (sym (far_is true x p.sign A p.value))
    (subst (λ (n : ℕ). (T (lt_z (signed p.sign A) (signed q.sign B)) → side false p.sign A + far true y < n + side true p.sign A) × (T (not (lt_z (signed p.sign A) (signed q.sign B))) → n + side true p.sign A ≤ side false p.sign A + far true y)) (sym (far_is false y q.sign B q.value))
    (subst (λ (n : ℕ). (T (lt_z (signed p.sign A) (signed q.sign B)) → side false p.sign A + n < side false q.sign B + side true p.sign A) × (T (not (lt_z (signed p.sign A) (signed q.sign B))) → side false q.sign B + side true p.sign A ≤ side false p.sign A + n)) (sym (far_is true y q.sign B q.value))
    (less p.sign A q.sign B)))))
