-- The numbers of an accepted line in units: sizes, margins and factors, and on the grid how many sixty-fourths they are. Assumes nothing.
use mathlib.Core.Path.{◌≡◌, refl, sym, ap, ap₂, ◌∙◌, subst}
use mathlib.Core.Logic.{◌⊎◌, inl, inr}
use mathlib.Core.Bool.{Bool, true, false, ◌&&◌}
use Prim.Native.Nat.{ℕ, zero, suc, ◌+◌, ◌-◌, ◌*◌, ◌%◌, ◌^◌, ◌≤◌, ◌<◌, zero-le}
use native.Mathlib.Nat.{le_refl, le_trans, le_of_eq, lt_irrefl, lt_of_lt_of_le, lt_of_not-le, le_of_suc-le-suc, mul-one, zero-mul, mul_assoc, mul_right_comm, mul-le-mul_right, le_of_mul-le-mul_right, sub-add_cancel}
use native.Mathlib.Omega.{arith}
use lib.Dec.{T, leb, ltb, eqb, leb→le, le→leb, ltb→lt, lit≤, lit<}
use lib.Pow.{pow-add, pow-lt}
use lib.IntN.{ℤ, pos, negsuc, nat_abs}
use lib.Signed.{le_z}
use lib.Ieee.{Float, nan, inf, fin, binary32, up, down, le, fits, of_bits}
use lib.Ieee.Fits.{down_pos}
use lib.Ieee.Exact.{HasValue}
use Rattle.grid.specs.Grid.{signed, on_grid, sixty_fourths, within, cleaned}
use Rattle.grid.specs.Values.{At}
use Rattle.grid.proofs.Exact.{rescale, le_at}
use Rattle.grid.proofs.Meaning.{at_of_grid}
use Rattle.grid.proofs.Range.{within_small}
use Rattle.flex.specs.declared.Item.{Item}
use Rattle.grid.specs.Floats.{nought}
use Rattle.flex_reach.specs.Reach.{IsSize, IsMargin, IsFactor, IsItem, HandedOn}
use Rattle.flex_reach.proofs.Units.{px, px_pos, Num, side, far, far_is, both}
use Rattle.flex_reach.proofs.Clamp.{Upto}
use Rattle.flex_reach.proofs.Turn.{Fine}

-- ---- the range

-- N units are m / d pixels
pub far_within : (x : Float) (s : Bool) (N n : ℕ) → HasValue x s N px → T (within n x) → N ≤ n * px
unfolding within
far_within nan s N n v h = absurd v
far_within (inf t) s N n v h = absurd v
far_within (fin t m e) s N n v h =
    le_of_mul-le-mul_right {k = down e} (le_trans (le_of_eq (sym v.1)) (le_trans (mul-le-mul_right px (leb→le (m * up e) (n * down e) h)) (le_of_eq (mul_right_comm n (down e) px)))) (down_pos e)

side_le : (g s : Bool) (N n : ℕ) → N ≤ n → side g s N ≤ n
side_le true true N n h = h
side_le false false N n h = h
side_le true false N n h = zero-le
side_le false true N n h = zero-le

pub within_far : {x : Float} → Num x → (n : ℕ) → T (within n x) → (g : Bool) → far g x ≤ n * px
within_far {x} p n h g = le_trans (le_of_eq (far_is g x p.sign (p.digits * 2 ^ p.shift) p.value)) (side_le g p.sign (p.digits * 2 ^ p.shift) (n * px) (far_within x p.sign (p.digits * 2 ^ p.shift) n p.value h))

nought_at : At px nought (pos 0)
unfolding of_bits px
nought_at = record { sign = false; size = 0; value = (refl, refl); total = refl }

pub above_far : {x : Float} → Num x → T (le nought x) → far true x ≡ 0
above_far {x} p h =
    let N = p.digits * 2 ^ p.shift in
    far_is true x p.sign N p.value ∙ go p.sign N (subst T (le_at px px_pos nought_at (record { sign = p.sign; size = N; value = p.value; total = refl })) h)
  where
    go : (s : Bool) (N : ℕ) → T (le_z (pos 0) (signed s N)) → side true s N ≡ 0
    go false N t = refl
    go true zero t = refl
    go true (suc N) t = absurd t

-- ---- the grid

-- a sixty-fourth of a pixel
unfoldable pub unit : ℕ
unit = 2 ^ 143

pub unit_px : 64 * unit ≡ px
unfolding unit px
unit_px = refl

-- an integer above 0, and below it
abbrev pub plus : ℤ → ℕ
plus (pos n) = n
plus (negsuc n) = 0

abbrev pub minus : ℤ → ℕ
minus (pos n) = 0
minus (negsuc n) = suc n

signed_sides : (s : Bool) (n : ℕ) → (side false s n ≡ plus (signed s n)) × (side true s n ≡ minus (signed s n)) × (nat_abs (signed s n) ≡ n)
signed_sides false n = (refl, refl, refl)
signed_sides true zero = (refl, refl, refl)
signed_sides true (suc n) = (refl, refl, refl)

pub record Gridded (x : Float) : Type 0 where
  pub num : Num x
  pub over : far false x ≡ plus (sixty_fourths x) * unit
  pub under : far true x ≡ minus (sixty_fourths x) * unit

pub gridded : (x : Float) → T (on_grid x) → (k : ℕ) → k ≤ 262144 → T (within k x) → Gridded x
unfolding unit px
gridded x g k l h =
    let a = at_of_grid x g in
    let n = a.size in
    let few : n ≤ 16777216 = le_trans (le_of_eq (sym (signed_sides a.sign n).2 ∙ ap nat_abs a.total)) (le_trans ((within_small k x g).0 h) (mul-le-mul_right 64 l)) in
    let v : HasValue x a.sign (n * 2 ^ 143) (2 ^ 149) = rescale x a.sign n 64 (n * 2 ^ 143) (2 ^ 149) (lit< tt) (mul_assoc n (2 ^ 143) 64) a.value in
    record {
      num = record { sign = a.sign; digits = n; shift = 143; few = few; value = v };
      over = far_is false x a.sign (n * 2 ^ 143) v ∙ out false a.sign n ∙ ap (λ (m : ℕ). m * 2 ^ 143) ((signed_sides a.sign n).0 ∙ ap plus a.total);
      under = far_is true x a.sign (n * 2 ^ 143) v ∙ out true a.sign n ∙ ap (λ (m : ℕ). m * 2 ^ 143) ((signed_sides a.sign n).1 ∙ ap minus a.total);
    }
  where
    out : (g s : Bool) (n : ℕ) → side g s (n * 2 ^ 143) ≡ side g s n * 2 ^ 143
    out true true n = refl
    out false false n = refl
    out true false n = sym (zero-mul (2 ^ 143))
    out false true n = sym (zero-mul (2 ^ 143))

pub size_grid : {x : Float} → IsSize x → Gridded x
size_grid {x} s = gridded x s.grid 262144 (le_refl 262144) s.small

pub size_upto : {x : Float} → IsSize x → Upto (262144 * px) x
size_upto {x} s = let p = (size_grid s).num in record { num = p; above = above_far p s.above; most = within_far p 262144 s.small false }

pub margin_grid : {x : Float} → IsMargin x → Gridded x
margin_grid {x} s = gridded x s.grid 131072 (lit≤ tt) s.small

-- ---- any float of 32 bits

tests : (a b c d : Bool) → T (a && b && c && d) → T b × T c
tests false b c d h = absurd h
tests true false c d h = absurd h
tests true true false d h = absurd h
tests true true true d h = (tt, tt)

digits_few : (s : Bool) (m : ℕ) (e : ℤ) → T (fits binary32 (fin s (suc m) e)) → (suc m < 16777216) × (down e ≤ 2 ^ 149)
unfolding fits
digits_few s m e h =
    let t = tests (eqb (suc m % 2) 1) (ltb (suc m) (2 ^ 24)) (leb (down e) (2 ^ 149)) (ltb (suc m * up e) (2 ^ 128 * down e)) h in
    (ltb→lt (suc m) (2 ^ 24) t.0, leb→le (down e) (2 ^ 149) t.1)

low_enough : (k : ℕ) → 2 ^ k ≤ 2 ^ 149 → k ≤ 149
low_enough k h = le_of_suc-le-suc (lt_of_not-le (λ (g : 150 ≤ k). lt_irrefl (2 ^ 149) (lt_of_lt_of_le (pow-lt g) h)))

fits_fin : (s : Bool) (m : ℕ) (e : ℤ) → T (fits binary32 (fin s m e)) → Num (fin s m e)
unfolding px
fits_fin s zero e h = record { sign = s; digits = 0; shift = 0; few = zero-le; value = (refl, ap (λ (n : ℕ). n * 2 ^ 149) (zero-mul (up e)) ∙ zero-mul (2 ^ 149) ∙ sym (zero-mul (down e))) }
fits_fin s (suc m) (pos k) h = record {
  sign = s;
  digits = suc m;
  shift = k + 149;
  few = lt→le (digits_few s m (pos k) h).0;
  value = (refl, mul_assoc (suc m) (2 ^ k) (2 ^ 149) ∙ ap (λ (n : ℕ). suc m * n) (sym (pow-add 2 k 149)) ∙ sym (mul-one (suc m * 2 ^ (k + 149))));
}
  where
    lt→le : {a b : ℕ} → a < b → a ≤ b
    lt→le h = native.Mathlib.Nat.le_of_lt h
fits_fin s (suc m) (negsuc k) h =
    let l : suc k ≤ 149 = low_enough (suc k) (digits_few s m (negsuc k) h).1 in
    record {
      sign = s;
      digits = suc m;
      shift = 149 - suc k;
      few = native.Mathlib.Nat.le_of_lt (digits_few s m (negsuc k) h).0;
      value = (refl, ap (λ (n : ℕ). n * 2 ^ 149) (mul-one (suc m)) ∙ ap (λ (n : ℕ). suc m * 2 ^ n) (sym (sub-add_cancel l)) ∙ ap (λ (n : ℕ). suc m * n) (pow-add 2 (149 - suc k) (suc k)) ∙ sym (mul_assoc (suc m) (2 ^ (149 - suc k)) (2 ^ suc k)));
    }

pub factor_upto : {x : Float} → IsFactor x → Upto (1024 * px) x
unfolding within
factor_upto {x} f = let p = go x f.single f.small in record { num = p; above = above_far p f.above; most = within_far p 1024 f.small false }
  where
    go : (x : Float) → T (fits binary32 x) → T (within 1024 x) → Num x
    go nan h w = absurd w
    go (inf s) h w = absurd w
    go (fin s m e) h w = fits_fin s m e h

-- ---- an item

pub fine : {it : Item} → IsItem it → Fine it
fine {it} i = record {
  sizes = record { base = size_upto i.base; minimum = size_upto i.minimum; maximum = maximum i.maximum; edges = size_upto i.edges };
  grow = factor_upto i.grow;
  shrink = factor_upto i.shrink;
  start = (margin_grid i.start).num;
  start_small = within_far (margin_grid i.start).num 131072 i.start.small;
  end = (margin_grid i.end).num;
  end_small = within_far (margin_grid i.end).num 131072 i.end.small;
}
  where
    maximum : (it.maximum ≡ inf false) ⊎ IsSize it.maximum → (it.maximum ≡ inf false) ⊎ Upto (262144 * px) it.maximum
    maximum (inl e) = inl e
    maximum (inr s) = inr (size_upto s)

-- ---- a target

pub handed_on : {x : Float} → Upto (16777216 * px) x → HandedOn (cleaned x)
unfolding cleaned within
handed_on {x} u = go x u.num.value whole
  where
    whole : u.num.digits * 2 ^ u.num.shift ≤ 16777216 * px
    whole = le_trans (le_of_eq (sym (ap₂ (λ (a b : ℕ). a + b) (far_is false x u.num.sign (u.num.digits * 2 ^ u.num.shift) u.num.value) (far_is true x u.num.sign (u.num.digits * 2 ^ u.num.shift) u.num.value) ∙ both u.num.sign (u.num.digits * 2 ^ u.num.shift)))) (sum (far false x) (far true x) (16777216 * px) u.most u.above)
      where
        sum : (a b n : ℕ) → a ≤ n → b ≡ 0 → a + b ≤ n
        sum a b n h e = omega arith

    test : (t : Bool) (m : ℕ) (e : ℤ) → HasValue (fin t m e) u.num.sign (u.num.digits * 2 ^ u.num.shift) px → u.num.digits * 2 ^ u.num.shift ≤ 16777216 * px → T (leb (m * up e) (16777216 * down e))
    test t m e v h = le→leb (m * up e) (16777216 * down e) (le_of_mul-le-mul_right {k = px} (le_trans (le_of_eq v.1) (le_trans (mul-le-mul_right (down e) h) (le_of_eq (mul_right_comm 16777216 px (down e))))) px_pos)

    go : (x : Float) → HasValue x u.num.sign (u.num.digits * 2 ^ u.num.shift) px → u.num.digits * 2 ^ u.num.shift ≤ 16777216 * px → HandedOn (cleaned x)
    go nan v h = absurd v
    go (inf s) v h = absurd v
    go (fin s zero e) v h = record { not_3 = tt; not_5 = test s zero e v h }
    go (fin s (suc m) e) v h = record { not_3 = tt; not_5 = test s (suc m) e v h }
