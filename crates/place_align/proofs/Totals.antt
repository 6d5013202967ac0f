-- How many margins of a side are auto, as a chain counts them, and that they are no more than were counted over. Assumes nothing.
use mathlib.Core.Path.{◌≡◌, refl, sym, ap, ◌∙◌}
use mathlib.Core.Bool.{Bool, true, false, cond, not}
use mathlib.Core.List.{List}
use Prim.Native.Nat.{ℕ, zero, suc, ◌+◌, ◌≤◌}
use native.Mathlib.Numerals.{add-one}
use native.Mathlib.Omega.{arith}
use lib.Dec.{eqb}
use lib.ListN.{length, get_or, take}
use Rattle.std.specs.List.{count_by}
use Rattle.std.proofs.lemmas.List.{take_all}
use Rattle.std.proofs.lemmas.List.Sums.{count_by_more_yes, count_by_more_no}
use Rattle.place_align.specs.Axis.{autos}

-- of the first n
autos_taken : (auto : List ℕ) (n : ℕ) → n ≤ length auto → count_by (λ (x : ℕ). not (eqb x 0)) (take n auto) ≡ autos auto n
unfolding autos
autos_taken auto zero h = refl
autos_taken auto (suc n) h = by (eqb (get_or auto n 0) 0) refl (autos_taken auto n (omega arith))
  where
    by : (b : Bool) → eqb (get_or auto n 0) 0 ≡ b → count_by (λ (x : ℕ). not (eqb x 0)) (take n auto) ≡ autos auto n → count_by (λ (x : ℕ). not (eqb x 0)) (take (suc n) auto) ≡ cond b (autos auto n) (autos auto n + 1)
    by true e p = rw (← add-one n) (count_by_more_no (λ (x : ℕ). not (eqb x 0)) auto n 0 h (ap not e) ∙ p)
    by false e p = rw (← add-one n) (count_by_more_yes (λ (x : ℕ). not (eqb x 0)) auto n 0 h (ap not e) ∙ ap (λ (k : ℕ). k + 1) p)

pub autos_counted : (auto : List ℕ) → count_by (λ (x : ℕ). not (eqb x 0)) auto ≡ autos auto (length auto)
autos_counted auto = ap (count_by (λ (x : ℕ). not (eqb x 0))) (sym (take_all (length auto) auto (omega arith))) ∙ autos_taken auto (length auto) (omega arith)

pub autos-within : (auto : List ℕ) (n : ℕ) → autos auto n ≤ n
unfolding autos
autos-within auto zero = omega arith
autos-within auto (suc n) = by (eqb (get_or auto n 0) 0) (autos-within auto n)
  where
    by : (b : Bool) → autos auto n ≤ n → cond b (autos auto n) (autos auto n + 1) ≤ suc n
    by true h = omega arith
    by false h = omega arith
