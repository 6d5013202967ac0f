-- Checks 1 and 2 of a call, from the lengths of its lists (document 01, "Domain and refusal numbers"). Assumes nothing.
use Rattle.std.specs.Prelude.{Bool, true, ◌&&◌, List, [], ◌∷◌, ℕ, ◌+◌, ◌*◌, max, eqb, leb}
use Rattle.checks.specs.Domain.{shape, Verdict}

abbrev pub longest : List ℕ → ℕ
longest [] = 0
longest (k ∷ l) = max k (longest l)

-- all lengths are n
abbrev pub alike : ℕ → List ℕ → Bool
alike n [] = true
alike n (k ∷ l) = eqb k n && alike n l

-- all lent lists have n cells, and the rest holds too
abbrev pub roomy : ℕ → List ℕ → Bool → Bool
roomy n [] rest = rest
roomy n (k ∷ l) rest = leb n k && roomy n l rest

-- the lists are of one length n, and each of the lent ones has room
abbrev pub shape_of : List ℕ → List ℕ → ℕ → Verdict
shape_of lengths rooms n = shape (longest lengths) (roomy n rooms (alike n lengths))

-- "balanced breaking also n·n+3n u32 cells and 3n f64 cells": of the lengths of these two lists
abbrev pub work_room : ℕ → ℕ → ℕ → Bool
work_room n work sums = leb (n * n + 3 * n) work && leb (3 * n) sums
