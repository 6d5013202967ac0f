-- Sums, differences, products and comparisons of whole numbers held in an `f64` are those of the numbers, up to 2 ^ 53: the grid's laws at
-- whole numbers, which are lengths with the denominator 1. Assumes nothing.
use mathlib.Core.Path.{◌≡◌, sym, ap, ◌∙◌}
use mathlib.Core.Bool.{true, false}
use Prim.Native.Nat.{ℕ, ◌+◌, ◌-◌, ◌*◌, ◌/◌, ◌^◌, ◌≤◌, ◌<◌, zero-le}
use native.Mathlib.Nat.{mul-one, mul-div_cancel}
use native.Mathlib.Omega.{arith}
use borrow.Author.Tests.{leb-true, leb-false, eqb-true, eqb-false}
use lib.Dec.{leb, eqb}
use lib.IntN.{pos}
use lib.Ieee.{Float, nan, inf, fin, binary64, up, down, add, sub, mul, eq, le}
use lib.Ieee.Fits.{down_pos}
use Rattle.grid.specs.Values.{At}
use Rattle.grid.proofs.Exact.{le_at, eq_at}
use Rattle.grid.proofs.Plus.{is_at, add_is, sub_is, mul_is}
use Rattle.balance_sums.specs.Whole.{Holds, whole}

pub whole_is : (x : Float) (a : ℕ) → Holds x a → whole x ≡ a
whole_is nan a h = absurd h
whole_is (inf s) a h = absurd h
whole_is (fin s m e) a h = ap (λ (z : ℕ). z / down e) (sym (mul-one (m * up e)) ∙ h.1) ∙ mul-div_cancel a (down_pos e)

pub holds_at : (x : Float) (a : ℕ) → Holds x a → At 1 x (pos a)
holds_at x a = is_at 0 a x

pub add_holds : (x y : Float) (a b : ℕ) → Holds x a → Holds y b → a + b ≤ 2 ^ 53 → Holds (add binary64 x y) (a + b)
add_holds x y a b p q h = add_is binary64 0 a b x y zero-le h p q

pub sub_holds : (x y : Float) (a b : ℕ) → Holds x a → Holds y b → b ≤ a → a ≤ 2 ^ 53 → Holds (sub binary64 x y) (a - b)
sub_holds x y a b p q l h = sub_is binary64 0 a b x y zero-le l h p q

pub mul_holds : (x y : Float) (a b : ℕ) → Holds x a → Holds y b → a * b ≤ 2 ^ 53 → Holds (mul binary64 x y) (a * b)
mul_holds x y a b p q h = mul_is binary64 0 0 a b x y zero-le h p q

-- ---- comparisons
le_is : (x y : Float) (a b : ℕ) → Holds x a → Holds y b → le x y ≡ leb a b
le_is x y a b p q = le_at 1 (omega arith) (holds_at x a p) (holds_at y b q)

eq_is : (x y : Float) (a b : ℕ) → Holds x a → Holds y b → eq x y ≡ eqb a b
eq_is x y a b p q = eq_at 1 (omega arith) (holds_at x a p) (holds_at y b q)

pub le_true : (x y : Float) (a b : ℕ) → Holds x a → Holds y b → le x y ≡ true → a ≤ b
le_true x y a b p q t = leb-true a b (sym (le_is x y a b p q) ∙ t)

pub le_false : (x y : Float) (a b : ℕ) → Holds x a → Holds y b → le x y ≡ false → b < a
le_false x y a b p q t = leb-false a b (sym (le_is x y a b p q) ∙ t)

pub eq_true : (x y : Float) (a b : ℕ) → Holds x a → Holds y b → eq x y ≡ true → a ≡ b
eq_true x y a b p q t = eqb-true a b (sym (eq_is x y a b p q) ∙ t)

pub eq_false : (x y : Float) (a b : ℕ) → Holds x a → Holds y b → eq x y ≡ false → ¬ (a ≡ b)
eq_false x y a b p q t = eqb-false a b (sym (eq_is x y a b p q) ∙ t)
