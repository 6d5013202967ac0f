-- "totals stay below 2^53": where check 6 passes, the total of no division is above 2^48, so that a float of 53 bits holds it and every sum on
-- the way. Assumes nothing.
use mathlib.Core.Path.{◌≡◌, refl, sym, ap, ◌∙◌}
use mathlib.Core.List.{List, [], ◌∷◌, map}
use Prim.Native.Nat.{ℕ, zero, suc, ◌+◌, ◌*◌, ◌≤◌, ◌^◌, zero-le}
use native.Mathlib.Nat.{le_refl, le_trans, zero-add, mul-add, add-mul, mul_comm, mul-le-mul}
use native.Mathlib.Omega.{arith}
use lib.ListN.{length, get_or, take, drop}
use lib.IntN.{ℤ, pos, negsuc, nat_abs, ◌+ℤ◌}
use lib.Ieee.{Float, nan}
use Rattle.grid.specs.Grid.{sixty_fourths}
use Rattle.lists.specs.Cells.{sum_up_to}
use Rattle.grid.proofs.Sums.{abs-add}
use Rattle.lists.proofs.UpTo.{sum_first}
use Rattle.break_greedy.specs.Breaking.{line_size}
use Rattle.break_greedy.specs.Calls.{sizes_sum, units}
use Rattle.balance_rule.specs.Rule.{floored, score}

-- ---- the sum of check 6, over a list

weigh : ℤ → List ℤ → ℕ
weigh gap [] = 0
weigh gap (x ∷ l) = nat_abs x + nat_abs gap + weigh gap l

weigh_is : (gap : Float) (sizes : List Float) → sizes_sum gap sizes ≡ weigh (sixty_fourths gap) (units sizes)
unfolding weigh sum_up_to
weigh_is gap [] = refl
weigh_is gap (x ∷ sizes) =
    sum_first (λ i. nat_abs (sixty_fourths (get_or (x ∷ sizes) i nan)) + nat_abs (sixty_fourths gap)) (length sizes)
    ∙ ap (λ (s : ℕ). nat_abs (sixty_fourths x) + nat_abs (sixty_fourths gap) + s) (weigh_is gap sizes)

weigh_cut : (gap : ℤ) (c : ℕ) (xs : List ℤ) → weigh gap (take c xs) + weigh gap (drop c xs) ≡ weigh gap xs
unfolding weigh
weigh_cut gap zero xs = zero-add (weigh gap xs)
weigh_cut gap (suc c) [] = refl
weigh_cut gap (suc c) (x ∷ xs) = omega (arith, weigh_cut gap c xs)

floored_less : (x : ℤ) → nat_abs (floored x) ≤ nat_abs x
floored_less (pos n) = le_refl n
floored_less (negsuc n) = zero-le

weigh_floored : (gap : ℤ) (xs : List ℤ) → weigh gap (map floored xs) ≤ weigh gap xs
unfolding weigh
weigh_floored gap [] = zero-le
weigh_floored gap (x ∷ xs) = omega (arith, floored_less x, weigh_floored gap xs)

-- ---- a line's size is at most its sum, and a total at most the sum squared

size_less : (gap : ℤ) (xs : List ℤ) → nat_abs (line_size gap xs) ≤ weigh gap xs
unfolding weigh line_size
size_less gap [] = zero-le
size_less gap (x ∷ []) = omega arith
size_less gap (x ∷ (y ∷ r)) = omega (arith, abs-add x (gap +ℤ line_size gap (y ∷ r)), abs-add gap (line_size gap (y ∷ r)), size_less gap (y ∷ r))

squares : (a b : ℕ) → a * a + b * b ≤ (a + b) * (a + b)
squares a b = simp (mul-add, add-mul, mul_comm b a) (omega arith)

score_less : (gap : ℤ) (xs : List ℤ) (d : List ℕ) → score gap xs d ≤ weigh gap xs * weigh gap xs
score_less gap xs [] = zero-le
score_less gap xs (c ∷ d) =
    let a = nat_abs (line_size gap (take c xs)) in
    let v = weigh gap (take c xs) in
    let w = weigh gap (drop c xs) in
    let p : a * a ≤ v * v = mul-le-mul (size_less gap (take c xs)) (size_less gap (take c xs)) in
    let q : v * v + w * w ≤ weigh gap xs * weigh gap xs = rw (sym (weigh_cut gap c xs)) (squares v w) in
    omega (arith, p, q, score_less gap (drop c xs) d)

-- THE TOTALS: of any division of an accepted list's sizes
pub totals_exact : (gap : Float) (sizes : List Float) (d : List ℕ) → sizes_sum gap sizes ≤ 16777216 → score (sixty_fourths gap) (map floored (units sizes)) d ≤ 2 ^ 48
totals_exact gap sizes d h =
    let w = weigh (sixty_fourths gap) (map floored (units sizes)) in
    let s : w ≤ 16777216 = omega (arith, weigh_floored (sixty_fourths gap) (units sizes), weigh_is gap sizes) in
    le_trans (score_less (sixty_fourths gap) (map floored (units sizes)) d) (mul-le-mul s s)
