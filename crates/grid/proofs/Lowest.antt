-- The lowest digit 1 of a number: it is what the number and its difference from a higher power of 2 have in common, and the powers of 2 up to it
-- are those that divide the number. Assumes nothing.
use mathlib.Core.Path.{◌≡◌, refl, sym, ap, ap₂, ◌∙◌}
use mathlib.Core.Logic.{◌⊎◌, inl, inr}
use mathlib.Core.Bool.{Bool, true, false}
use Prim.Native.Nat.{ℕ, zero, suc, ◌+◌, ◌-◌, ◌*◌, ◌/◌, ◌%◌, ◌^◌, ◌≤◌, ◌<◌, min}
use native.Mathlib.Nat.{le_of_lt, add-zero, mul_assoc, mul-one, mul-pos, mul-mod_left, mod-lt, pow-suc}
use native.Mathlib.Omega.{arith}
use lib.Dec.{leb, eqb, ltb}
use lib.Bits.{bit_and, and_step}
use lib.Pow.{mod-mod-pow, mod-pow-add, shl-shr, pow-add, pow_pos}
use borrow.Author.Tests.{ltb-true, ltb-false, leb-false, le-leb, lt-leb, ne_eqb}
use Rattle.grid.specs.Bits.{Lowest}

-- ---- digits in common
pub last : (n : ℕ) → (n % 2 ≡ 0) ⊎ (n % 2 ≡ 1)
last n = go (n % 2) (mod-lt n (omega arith))
  where
    go : (d : ℕ) → d < 2 → (d ≡ 0) ⊎ (d ≡ 1)
    go zero h = inl refl
    go (suc zero) h = inr refl
    go (suc (suc d)) h = absurd (omega arith)

odd : (n : ℕ) → n % 2 ≡ 1 → n ≡ n / 2 * 2 + 1
odd n h = omega arith

-- by the last digits c and d
and_last : (a b x c d : ℕ) → a % 2 ≡ c → b % 2 ≡ d → bit_and (a / 2) (b / 2) ≡ x → bit_and a b ≡ x * 2 + min c d
and_last a b x c d p q e = and_step a b ∙ ap₂ (λ (n r : ℕ). n * 2 + r) e (ap₂ min p q)

-- two numbers whose sum is nothing but ones have no digit 1 in common
and_none : (w a b : ℕ) → a + b + 1 ≡ 2 ^ w → bit_and a b ≡ 0
and_none zero a b e = let h : a ≡ 0 = omega (arith, e) in ap (λ (n : ℕ). bit_and n b) h
and_none (suc w) a b e =
    let h : a + b + 1 ≡ 2 ^ w * 2 = e ∙ pow-suc 2 w in
    let rest = and_none w (a / 2) (b / 2) (omega (arith, h)) in
    elim (last a) [
      | inl p ↦ and_last a b 0 0 1 p (omega (arith, h, p)) rest
      | inr p ↦ and_last a b 0 1 0 p (omega (arith, h, p)) rest
    ]

-- one place up
lowest_even : (q c : ℕ) → q % 2 ≡ 0 → c % 2 ≡ 0 → Lowest (q / 2) (bit_and (q / 2) (c / 2)) → Lowest q (bit_and q c)
lowest_even q c d e l =
    let m = l.above * 2 + 1 in
    let t : q ≡ q / 2 * 2 = omega (arith, d) in
    record {
      place = suc l.place;
      above = l.above;
      power = and_last q c (2 ^ l.place) 0 0 d e l.power ∙ add-zero (2 ^ l.place * 2) ∙ sym (pow-suc 2 l.place);
      number = t ∙ ap (λ (n : ℕ). n * 2) l.number ∙ mul_assoc m (2 ^ l.place) 2 ∙ ap (λ (n : ℕ). m * n) (sym (pow-suc 2 l.place));
    }

-- a number and what it lacks to a higher power of 2 have just the lowest digit 1 in common
pub lowest_and : (w q c : ℕ) → 0 < q → 0 < c → q + c ≡ 2 ^ w → Lowest q (bit_and q c)
lowest_and zero q c p r e = absurd (omega (arith, e))
lowest_and (suc w) q c p r e =
    let h : q + c ≡ 2 ^ w * 2 = e ∙ pow-suc 2 w in
    elim (last q) [
      | inl d ↦ lowest_even q c d (omega (arith, h, d)) (lowest_and w (q / 2) (c / 2) (omega (arith, d)) (omega (arith, h, d)) (omega (arith, h, d)))
      | inr d ↦ record {
        place = 0;
        above = q / 2;
        power = and_last q c 0 1 1 d (omega (arith, h, d)) (and_none w (q / 2) (c / 2) (omega (arith, h, d)));
        number = odd q d ∙ sym (mul-one (q / 2 * 2 + 1));
      }
    ]

-- ---- which powers of 2 divide a number
pub not_zero : (n : ℕ) → 0 < n → eqb n 0 ≡ false
not_zero n h = ne_eqb n 0 (λ e. absurd (omega (arith, e)))

pub power_divides : (n k p : ℕ) → p ≤ k → n * 2 ^ k % 2 ^ p ≡ 0
power_divides n k p h =
    let a : k ≡ k - p + p = omega (arith, h) in
    ap (λ (x : ℕ). n * x % 2 ^ p) (ap (λ (i : ℕ). 2 ^ i) a ∙ pow-add 2 (k - p) p)
    ∙ ap (λ (x : ℕ). x % 2 ^ p) (sym (mul_assoc n (2 ^ (k - p)) (2 ^ p)))
    ∙ mul-mod_left (n * 2 ^ (k - p)) (2 ^ p)

-- n * 2 ^ k below place w is n below place w - k, moved up k places
times_mod : (n k w : ℕ) → k ≤ w → n * 2 ^ k % 2 ^ w ≡ n % 2 ^ (w - k) * 2 ^ k
times_mod n k w h =
    let a : w ≡ w - k + k = omega (arith, h) in
    ap (λ (i : ℕ). n * 2 ^ k % 2 ^ i) a
    ∙ mod-pow-add (n * 2 ^ k) (w - k) k
    ∙ ap₂ (λ (x y : ℕ). x % 2 ^ (w - k) * 2 ^ k + y) (shl-shr n k) (mul-mod_left n (2 ^ k))
    ∙ add-zero (n % 2 ^ (w - k) * 2 ^ k)

-- an odd number is odd without its higher digits too
odd_rest : (m k w : ℕ) → k < w → (m * 2 + 1) % 2 ^ (w - k) % 2 ≡ 1
odd_rest m k w h =
    let a : w - k ≡ w - k - 1 + 1 = omega (arith, h) in
    ap (λ (n : ℕ). (m * 2 + 1) % 2 ^ n % 2) a ∙ mod-mod-pow (m * 2 + 1) (w - k - 1) 1 ∙ omega arith

pub odd_divides : (m k p : ℕ) → eqb ((m * 2 + 1) * 2 ^ k % 2 ^ p) 0 ≡ leb p k
odd_divides m k p = go (ltb k p) refl
  where
    go : (b : Bool) → ltb k p ≡ b → eqb ((m * 2 + 1) * 2 ^ k % 2 ^ p) 0 ≡ leb p k
    go true e =
        let h = ltb-true k p e in
        let n = (m * 2 + 1) % 2 ^ (p - k) in
        let o : 0 < n = omega (arith, odd_rest m k p h) in
        ap (λ (x : ℕ). eqb x 0) (times_mod (m * 2 + 1) k p (le_of_lt h)) ∙ not_zero (n * 2 ^ k) (mul-pos o (pow_pos k)) ∙ sym (lt-leb p k h)
    go false e = let h = ltb-false k p e in ap (λ (x : ℕ). eqb x 0) (power_divides (m * 2 + 1) k p h) ∙ sym (le-leb p k h)

pub place_below : {q r : ℕ} (w : ℕ) (l : Lowest q r) → 0 < q % 2 ^ w → l.place < w
place_below {q} {r} w l h =
    leb-false w l.place (sym (odd_divides l.above l.place w) ∙ ap (λ (n : ℕ). eqb (n % 2 ^ w) 0) (sym l.number) ∙ not_zero (q % 2 ^ w) h)

-- without the digits from place w on, too, it is an odd number times that power of 2
pub lowest_rest : {q r : ℕ} (w : ℕ) (l : Lowest q r) → l.place < w → q % 2 ^ w ≡ ((l.above * 2 + 1) % 2 ^ (w - l.place) / 2 * 2 + 1) * 2 ^ l.place
lowest_rest {q} {r} w l h =
    let k = l.place in
    let n = l.above * 2 + 1 in
    ap (λ (x : ℕ). x % 2 ^ w) l.number ∙ times_mod n k w (le_of_lt h) ∙ ap (λ (x : ℕ). x * 2 ^ k) (odd (n % 2 ^ (w - k)) (odd_rest l.above k w h))
