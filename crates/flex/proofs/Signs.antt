-- A sum of numbers none of which is above 0 is not above 0, and the same below, in either format, infinities and `nan` among them. So where a sum is above 0, some number of it is. Assumes nothing.
use mathlib.Core.Path.{◌≡◌, refl, sym, ap, ap₂, ◌∙◌, subst}
use mathlib.Core.Logic.{◌⊎◌, inl, inr}
use mathlib.Core.Bool.{Bool, true, false, not, cond, beq, true≢false, false≢true}
use mathlib.Core.List.{List, [], ◌∷◌}
use Prim.Native.Nat.{ℕ, zero, suc, ◌+◌, ◌-◌, ◌*◌, ◌^◌, ◌≤◌, ◌<◌, zero-le}
use native.Mathlib.Nat.{zero-mul, mul-pos, zero-lt-suc, lt_irrefl}
use native.Mathlib.Omega.{arith}
use lib.Dec.{T, ltb, ltb→lt, nltb→le, lt→ltb}
use lib.Pow.{pow_pos}
use lib.IntN.{ℤ}
use lib.Ieee.{Float, nan, inf, fin, Format, binary32, prec, low, up, down, units, odd, round, sum, add, lt, eq, level, of_bits}
use lib.Ieee.Bits.{is_true}
use lib.Ieee.Fits.{up_pos, down_pos, round_is}
use lib.Ieee.Exact.{HasValue}
use Rattle.grid.proofs.Exact.{round_at}
use Rattle.grid.specs.Floats.{◌⊕◌, nought}
use Rattle.flex.specs.Flex.{sum_from}

-- x is not beyond 0 on the other side than the sign g's: it is nan, or has the sign g, or is a zero
abbrev pub Not : Bool → Float → Type 0
Not g nan = Unit {0}
Not g (inf s) = s ≡ g
Not g (fin s m e) = (s ≡ g) ⊎ (m ≡ 0)

-- ---- rounding keeps the sign, and takes 0 to 0

signed_odd : (g : Bool) (d : ℕ) (s : Bool) (q k l : ℕ) → s ≡ g → Not g (odd d s q k l)
unfolding odd
signed_odd g d s zero k l h = inl h
signed_odd g d s (suc q) k l h = inl h

signed_units : (f : Format) (g s : Bool) (q k : ℕ) → s ≡ g → Not g (units f s q k)
unfolding units
signed_units f g s q k h = go (ltb (q * 2 ^ k) (2 ^ (low f + suc (lib.Ieee.emax f))))
  where
    go : (b : Bool) → Not g (cond b (odd (suc (prec f)) s q k (low f)) (inf s))
    go true = signed_odd g (suc (prec f)) s q k (low f) h
    go false = h

signed_round : (f : Format) (g s : Bool) (num den : ℕ) → s ≡ g → Not g (round f s num den)
signed_round f g s num den h = subst (λ (x : Float). Not g x) (sym (round_is f s num den)) (signed_units f g s _ _ h)

zero-value : (g : Bool) (x : Float) (s : Bool) (u : ℕ) → 0 < u → HasValue x s 0 u → Not g x
zero-value g nan s u h v = tt
zero-value g (inf t) s u h v = absurd v
zero-value g (fin t m e) s u h v = inr (first m (up e) u (up_pos e) h (v.1 ∙ zero-mul (down e)))
  where
    none : (a b : ℕ) → 0 < b → a * b ≡ 0 → a ≡ 0
    none zero b p e = refl
    none (suc a) b p e = absurd (lt_irrefl 0 (subst (λ (n : ℕ). 0 < n) e (mul-pos (zero-lt-suc a) p)))

    first : (m a b : ℕ) → 0 < a → 0 < b → m * a * b ≡ 0 → m ≡ 0
    first m a b p q e = none m a p (none (m * a) b q e)

zero-round : (f : Format) (g s : Bool) (den : ℕ) → 0 < den → Not g (round f s 0 den)
zero-round f g s den h = zero-value g (round f s 0 den) s (2 ^ 0) (pow_pos 0) (round_at f s 0 den 0 0 h zero-le zero-le (zero-mul (2 ^ 0) ∙ sym (zero-mul den)))

not_round : (f : Format) (g s : Bool) (num den : ℕ) → 0 < den → (s ≡ g) ⊎ (num ≡ 0) → Not g (round f s num den)
not_round f g s num den h (inl e) = signed_round f g s num den e
not_round f g s num den h (inr e) = subst (λ (n : ℕ). Not g (round f s n den)) (sym e) (zero-round f g s den h)

-- ---- the sum of two

either_zero : (s g : Bool) (m u v : ℕ) → (s ≡ g) ⊎ (m ≡ 0) → (s ≡ g) ⊎ (m * u * v ≡ 0)
either_zero s g m u v (inl e) = inl e
either_zero s g m u v (inr e) = inr (ap (λ (n : ℕ). n * u * v) e ∙ ap (λ (n : ℕ). n * v) (zero-mul u) ∙ zero-mul v)

both_zero : (s g : Bool) (a b : ℕ) → (s ≡ g) ⊎ (a ≡ 0) → (s ≡ g) ⊎ (b ≡ 0) → (s ≡ g) ⊎ (a + b ≡ 0)
both_zero s g a b (inl e) q = inl e
both_zero s g a b (inr e) (inl d) = inl d
both_zero s g a b (inr e) (inr d) = inr (omega arith)

not_sum : (f : Format) (g s : Bool) (a : ℕ) (t : Bool) (b c : ℕ) → 0 < c → (s ≡ g) ⊎ (a ≡ 0) → (t ≡ g) ⊎ (b ≡ 0) → Not g (sum f s a t b c)
unfolding sum
not_sum f g true a true b c h p q = not_round f g true (a + b) c h (both_zero true g a b p q)
not_sum f g false a false b c h p q = not_round f g false (a + b) c h (both_zero false g a b p q)
not_sum f true true a false b c h p q = go (ltb a b) (ltb b a) (nltb→le b a) (zero_of q)
  where
    zero_of : (false ≡ true) ⊎ (b ≡ 0) → b ≡ 0
    zero_of (inl e) = absurd (false≢true e)
    zero_of (inr e) = e

    go : (x y : Bool) → (T (not y) → a ≤ b) → b ≡ 0 → Not true (cond x (round f false (b - a) c) (round f y (a - b) c))
    go true y l z = not_round f true false (b - a) c h (inr (omega arith))
    go false true l z = not_round f true true (a - b) c h (inl refl)
    go false false l z = not_round f true false (a - b) c h (inr (omega (arith, l tt)))
not_sum f false true a false b c h p q = go (ltb a b) (ltb b a) (zero_of p)
  where
    zero_of : (true ≡ false) ⊎ (a ≡ 0) → a ≡ 0
    zero_of (inl e) = absurd (true≢false e)
    zero_of (inr e) = e

    go : (x y : Bool) → a ≡ 0 → Not false (cond x (round f false (b - a) c) (round f y (a - b) c))
    go true y z = not_round f false false (b - a) c h (inl refl)
    go false y z = not_round f false y (a - b) c h (inr (omega arith))
not_sum f true false a true b c h p q = go (ltb a b) (zero_of p)
  where
    zero_of : (false ≡ true) ⊎ (a ≡ 0) → a ≡ 0
    zero_of (inl e) = absurd (false≢true e)
    zero_of (inr e) = e

    go : (x : Bool) → a ≡ 0 → Not true (cond x (round f true (b - a) c) (round f false (a - b) c))
    go true z = not_round f true true (b - a) c h (inl refl)
    go false z = not_round f true false (a - b) c h (inr (omega arith))
not_sum f false false a true b c h p q = go (ltb a b) (zero_of q)
  where
    zero_of : (true ≡ false) ⊎ (b ≡ 0) → b ≡ 0
    zero_of (inl e) = absurd (true≢false e)
    zero_of (inr e) = e

    go : (x : Bool) → b ≡ 0 → Not false (cond x (round f true (b - a) c) (round f false (a - b) c))
    go true z = not_round f false true (b - a) c h (inr (omega arith))
    go false z = not_round f false false (a - b) c h (inl refl)

pub not_add : (f : Format) (g : Bool) (x y : Float) → Not g x → Not g y → Not g (add f x y)
unfolding add
not_add f g nan y p q = tt
not_add f g (inf s) nan p q = tt
not_add f g (inf s) (inf t) p q = go (beq s t)
  where
    go : (b : Bool) → Not g (cond b (inf s) nan)
    go true = p
    go false = tt
not_add f g (inf s) (fin t n d) p q = p
not_add f g (fin s m e) nan p q = tt
not_add f g (fin s m e) (inf t) p q = q
not_add f g (fin s m e) (fin t n d) p q =
    not_sum f g s (m * up e * down d) t (n * up d * down e) (down e * down d) (mul-pos (down_pos e) (down_pos d)) (either_zero s g m (up e) (down d) p) (either_zero t g n (up d) (down e) q)

-- ---- by the comparisons with 0.0

zero_times : (a b : ℕ) → 0 * a * b ≡ 0
zero_times a b = ap (λ (n : ℕ). n * b) (zero-mul a) ∙ zero-mul b

is_false : (b : Bool) → (T b → ⊥) → b ≡ false
is_false true f = absurd (f tt)
is_false false f = refl

-- 0 and m / c, over denominators of both
some : (m u c : ℕ) → 0 < u → 0 * 1 * c < suc m * u * 1
some m u c h = subst (λ (n : ℕ). n < suc m * u * 1) (sym (zero_times 1 c)) (mul-pos (mul-pos (zero-lt-suc m) h) (zero-lt-suc 0))

none : (m u c : ℕ) → m ≡ 0 → 0 * 1 * c < m * u * 1 → ⊥
none m u c h l = lt_irrefl 0 (subst (λ (n : ℕ). 0 < n) (ap (λ (n : ℕ). n * u * 1) h ∙ zero_times u 1) (subst (λ (n : ℕ). n < m * u * 1) (zero_times 1 c) l))

pub above_none : (x : Float) → lt nought x ≡ false → Not true x
unfolding lt of_bits
above_none nan h = tt
above_none (inf true) h = refl
above_none (inf false) h = absurd (true≢false h)
above_none (fin true m e) h = inl refl
above_none (fin false zero e) h = inr refl
above_none (fin false (suc m) e) h = absurd (true≢false (sym (is_true (ltb (0 * 1 * down e) (suc m * up e * 1)) (lt→ltb (0 * 1 * down e) (suc m * up e * 1) (some m (up e) (down e) (up_pos e)))) ∙ h))

pub none_above : (x : Float) → Not true x → lt nought x ≡ false
unfolding lt of_bits
none_above nan p = refl
none_above (inf s) p = ap not p
none_above (fin true m e) p = refl
none_above (fin false m e) (inl h) = absurd (false≢true h)
none_above (fin false m e) (inr h) = is_false (ltb (0 * 1 * down e) (m * up e * 1)) (λ (t : T (ltb (0 * 1 * down e) (m * up e * 1))). none m (up e) (down e) h (ltb→lt (0 * 1 * down e) (m * up e * 1) t))

pub below_none : (x : Float) → lt x nought ≡ false → Not false x
unfolding lt of_bits
below_none nan h = tt
below_none (inf true) h = absurd (true≢false h)
below_none (inf false) h = refl
below_none (fin false m e) h = inl refl
below_none (fin true zero e) h = inr refl
below_none (fin true (suc m) e) h =
    absurd (true≢false (sym (is_true (ltb 0 (suc m * up e * 1 + 0 * 1 * down e)) (lt→ltb 0 (suc m * up e * 1 + 0 * 1 * down e) (more (suc m * up e * 1) (0 * 1 * down e) (mul-pos (mul-pos (zero-lt-suc m) (up_pos e)) (zero-lt-suc 0))))) ∙ h))
  where
    more : (a b : ℕ) → 0 < a → 0 < a + b
    more a b l = omega arith

pub none_below : (x : Float) → Not false x → lt x nought ≡ false
unfolding lt of_bits
none_below nan p = refl
none_below (inf s) p = p
none_below (fin false m e) p = is_false (ltb (m * up e * 1) (0 * 1 * down e)) (λ (t : T (ltb (m * up e * 1) (0 * 1 * down e))). no (m * up e * 1) (0 * 1 * down e) (zero_times 1 (down e)) (ltb→lt (m * up e * 1) (0 * 1 * down e) t))
  where
    no : (a b : ℕ) → b ≡ 0 → a < b → ⊥
    no a b h l = omega arith
none_below (fin true m e) (inl h) = absurd (true≢false h)
none_below (fin true m e) (inr h) = is_false (ltb 0 (m * up e * 1 + 0 * 1 * down e)) (λ (t : T (ltb 0 (m * up e * 1 + 0 * 1 * down e))). no (m * up e * 1) (0 * 1 * down e) (ap (λ (n : ℕ). n * up e * 1) h ∙ zero_times (up e) 1) (zero_times 1 (down e)) (ltb→lt 0 (m * up e * 1 + 0 * 1 * down e) t))
  where
    no : (a b : ℕ) → a ≡ 0 → b ≡ 0 → 0 < a + b → ⊥
    no a b g h l = omega arith

-- ---- a sum over a list

-- each of the list has it
abbrev pub All : {A : Type 0} → (A → Type 0) → List A → Type 0
All P [] = Unit {0}
All P (a ∷ l) = P a × All P l

pub not_total : {A : Type 0} (g : Bool) (f : A → Float) (s : Float) (l : List A) → Not g s → All (λ a. Not g (f a)) l → Not g (sum_from s f l)
unfolding sum_from
not_total g f s [] p h = p
not_total g f s (a ∷ l) p h = not_total g f (s ⊕ f a) l (not_add binary32 g s (f a) p h.0) h.1

pub not_nought : (g : Bool) → Not g nought
unfolding of_bits
not_nought g = inr refl

zero_level : (s : Bool) (e : ℤ) (m : ℕ) → m ≡ 0 → eq (fin s m e) nought ≡ true
unfolding eq of_bits
zero_level s e m h = ap₂ (λ (a b : ℕ). level s a false b) (ap (λ (n : ℕ). n * up e * 1) h ∙ zero_times (up e) 1) (zero_times 1 (down e)) ∙ go s
  where
    go : (s : Bool) → level s 0 false 0 ≡ true
    go true = refl
    go false = refl

-- a number that is on neither side of 0.0 is a zero, or nan: what is left where a total freezes all
pub neither : (x : Float) → lt nought x ≡ false → lt x nought ≡ false → (x ≡ nan) ⊎ (eq x nought ≡ true)
neither x p q = go x (above_none x p) (below_none x q)
  where
    zero : (s : Bool) (m : ℕ) (e : ℤ) → m ≡ 0 → eq (fin s m e) nought ≡ true
    zero s m e h = zero_level s e m h

    go : (x : Float) → Not true x → Not false x → (x ≡ nan) ⊎ (eq x nought ≡ true)
    go nan p q = inl refl
    go (inf s) p q = absurd (true≢false (sym p ∙ q))
    go (fin s m e) (inl a) (inl b) = absurd (true≢false (sym a ∙ b))
    go (fin s m e) (inl a) (inr b) = inr (zero s m e b)
    go (fin s m e) (inr a) q = inr (zero s m e a)
