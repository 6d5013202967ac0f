-- Sums of whole numbers by their index, from 0 up: by their last number and by their first, of equal numbers, and of fewer. Assumes nothing.
use mathlib.Core.Path.{◌≡◌, refl, ap, ap₂, ◌∙◌, subst}
use mathlib.Core.Logic.{◌⊎◌, inl, inr}
use Prim.Native.Nat.{ℕ, zero, suc, ◌+◌, ◌≤◌, ◌<◌}
use native.Mathlib.Nat.{le_refl, le_of_suc-le-suc, eq-or-lt_of_le, add_assoc}
use native.Mathlib.Numerals.{add-one}
use native.Mathlib.Omega.{arith}
use Rattle.lists.specs.Cells.{sum_up_to}

pub sum-none : (f : ℕ → ℕ) → sum_up_to f 0 ≡ 0
unfolding sum_up_to
sum-none f = refl

pub sum_more : (f : ℕ → ℕ) (i : ℕ) → sum_up_to f (i + 1) ≡ sum_up_to f i + f i
unfolding sum_up_to
sum_more f i = ap (sum_up_to f) (add-one i)

pub sum_first : (f : ℕ → ℕ) (k : ℕ) → sum_up_to f (suc k) ≡ f 0 + sum_up_to (λ i. f (suc i)) k
unfolding sum_up_to
sum_first f zero = omega arith
sum_first f (suc k) = ap (λ (s : ℕ). s + f (suc k)) (sum_first f k) ∙ add_assoc (f 0) (sum_up_to (λ i. f (suc i)) k) (f (suc k))

pub sum_ext : (f g : ℕ → ℕ) (n : ℕ) → ((i : ℕ) → i < n → f i ≡ g i) → sum_up_to f n ≡ sum_up_to g n
unfolding sum_up_to
sum_ext f g zero h = refl
sum_ext f g (suc n) h = ap₂ (λ (a b : ℕ). a + b) (sum_ext f g n (λ i l. h i (omega arith))) (h n (omega arith))

-- the sum of the first and the one after them is at most the sum of more
pub sum_past : (f : ℕ → ℕ) (i n : ℕ) → i < n → sum_up_to f i + f i ≤ sum_up_to f n
unfolding sum_up_to
sum_past f i zero h = absurd (omega arith)
sum_past f i (suc n) h = go (eq-or-lt_of_le (le_of_suc-le-suc h)) (sum_past f i n)
  where
    go : (i ≡ n) ⊎ (i < n) → (i < n → sum_up_to f i + f i ≤ sum_up_to f n) → sum_up_to f i + f i ≤ sum_up_to f n + f n
    go (inr l) k = omega (arith, k l)
    go (inl e) k = subst (λ (j : ℕ). sum_up_to f i + f i ≤ sum_up_to f j + f j) e (le_refl (sum_up_to f i + f i))
