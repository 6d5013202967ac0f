-- Lists by their cells: made cell by cell, summed up to a cell, and what a call leaves of a lent one. Assumes nothing.
use Rattle.std.specs.Prelude.{◌≡◌, List, [], ◌∷◌, ◌++◌, ℕ, zero, suc, ◌+◌, ◌-◌, length, take, drop, replicate}

-- f 0, f 1, .. up to f (n − 1)
unfoldable pub each : {A : Type 0} → ℕ → (ℕ → A) → List A
each zero f = []
each (suc n) f = each n f ++ (f n ∷ [])

-- the sum of the first n of f
unfoldable pub sum_up_to : (ℕ → ℕ) → ℕ → ℕ
sum_up_to f zero = 0
sum_up_to f (suc n) = sum_up_to f n + f n

-- ---- a lent list

-- lent cells whose first n are f's, and the others as they were
abbrev pub overwritten : {A : Type 0} → ℕ → (ℕ → A) → List A → List A
overwritten n f old = each n f ++ drop n old

-- a value in the cells from one up to another, the others unchanged
abbrev pub filled : {A : Type 0} → A → ℕ → ℕ → List A → List A
filled z from to before = take from before ++ (replicate (to - from) z ++ drop to before)

-- "all cells past the named ones are unchanged": a lent list whose first n cells are named
pub record Past {A : Type 0} (n : ℕ) (old new : List A) : Type 0 where
  pub long : length new ≡ length old
  pub rest : drop n new ≡ drop n old
