-- The zero rule at P3 of document 01, computed: of 70, 0 and 0 in two lines the first may hold 2, since no item would remain for the second line
-- if it took the third too, and it may not hold 1. Assumes nothing.
use mathlib.Core.Path.{refl}
use mathlib.Core.Logic.{◌⊎◌, inl, inr}
use mathlib.Core.List.{List, [], ◌∷◌}
use Prim.Native.Nat.{◌<◌}
use native.Mathlib.Omega.{arith}
use lib.IntN.{ℤ, pos}
use Rattle.break_greedy.specs.Breaking.{definite, fits, line_size}
use Rattle.balance_rule.specs.Rule.{Line}

abbrev sizes : List ℤ
sizes = pos 4480 ∷ pos 0 ∷ pos 0 ∷ []

p3_two : Line (definite (pos 6400)) (pos 0) sizes 2 1
unfolding fits line_size
p3_two = record { positive = omega arith; enough = omega arith; fit = inr tt; zeros = λ h z. inr (omega arith) }

p3_one : ¬ Line (definite (pos 6400)) (pos 0) sizes 1 1
unfolding fits line_size
p3_one l = neither (l.zeros (omega arith) refl)
  where
    neither : ⊥ ⊎ (1 < 1) → ⊥
    neither (inl h) = h
    neither (inr h) = omega arith
