-- Whole numbers held in an `f64`: `Holds x a` says that x is the number a, and not -0. Only contracts of parts cite it.
-- Assumes nothing.
use Rattle.std.specs.Prelude.{false, ℕ, ◌*◌, ◌/◌, Float}
use Rattle.std.specs.Float.{nan, inf, fin}
use Rattle.std.specs.Float.Ieee.{up, down}
use Rattle.std.specs.Float.Ieee.Exact.{HasValue}

abbrev pub Holds : Float → ℕ → Type 0
Holds x a = HasValue x false a 1

-- the number that x is, cut to a whole one
abbrev pub whole : Float → ℕ
whole nan = 0
whole (inf s) = 0
whole (fin s m e) = m * up e / down e
