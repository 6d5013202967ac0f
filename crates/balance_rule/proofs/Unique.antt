-- The rule names at most one division: of two that are chosen, each is better than the other or they are one, and better has no circles.
-- Assumes nothing.
use mathlib.Core.Path.{◌≡◌, sym}
use mathlib.Core.Logic.{◌⊎◌, inl, inr}
use mathlib.Core.List.{List, [], ◌∷◌, map}
use Prim.Native.Nat.{ℕ}
use native.Mathlib.Omega.{arith}
use lib.IntN.{ℤ}
use Rattle.break_greedy.specs.Breaking.{Limit}
use Rattle.balance_rule.specs.Rule.{MoreFirst, Better, Chosen, required, floored, Balanced}

pub more_asym : (d e : List ℕ) → MoreFirst d e → MoreFirst e d → ⊥
more_asym [] e p q = p
more_asym (c ∷ d) [] p q = p
more_asym (c ∷ d) (b ∷ e) (inl p) (inl q) = omega arith
more_asym (c ∷ d) (b ∷ e) (inl p) (inr q) = omega arith
more_asym (c ∷ d) (b ∷ e) (inr p) (inl q) = omega arith
more_asym (c ∷ d) (b ∷ e) (inr p) (inr q) = more_asym d e p.1 q.1

pub better_asym : (gap : ℤ) (xs : List ℤ) (d e : List ℕ) → Better gap xs d e → Better gap xs e d → ⊥
better_asym gap xs d e (inl p) (inl q) = omega arith
better_asym gap xs d e (inl p) (inr q) = omega arith
better_asym gap xs d e (inr p) (inl q) = omega arith
better_asym gap xs d e (inr p) (inr q) = more_asym d e p.1 q.1

pub unique : (limit : Limit) (gap : ℤ) (xs : List ℤ) (k : ℕ) (d e : List ℕ) → Chosen limit gap xs k d → Chosen limit gap xs k e → d ≡ e
unique limit gap xs k d e a b = go (a.best e b.valid b.lines) (b.best d a.valid a.lines)
  where
    go : (d ≡ e) ⊎ Better gap xs d e → (e ≡ d) ⊎ Better gap xs e d → d ≡ e
    go (inl p) q = p
    go (inr p) (inl q) = sym q
    go (inr p) (inr q) = absurd (better_asym gap xs d e p q)

-- ANY TWO BALANCED DIVISIONS ARE ONE, for any limit, gap, sizes and minimum
pub balanced_one : (limit : Limit) (gap : ℤ) (sizes : List ℤ) (minimum : ℕ) (d e : List ℕ) → Balanced limit gap sizes minimum d → Balanced limit gap sizes minimum e → d ≡ e
balanced_one limit gap sizes minimum d e = unique limit gap (map floored sizes) (required limit gap (map floored sizes) minimum) d e
