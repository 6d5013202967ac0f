-- The numbers that a call takes in lists: what item i has in each. Assumes nothing.
use Rattle.std.specs.Prelude.{List, [], ◌∷◌, ℕ, eqb, get_or, Float}
use Rattle.std.specs.Float.{nan}
use Rattle.checks.specs.Domain.{Number, float, code}
use Rattle.checks.specs.Optional.{optional}
use Rattle.checks.specs.declared.Kind.{Kind}

-- a float
abbrev pub float_at : Kind → List Float → ℕ → List Number
float_at kind xs i = float kind (get_or xs i nan) ∷ []

-- a code, one of 0 to `most`
abbrev pub code_at : ℕ → List ℕ → ℕ → List Number
code_at most codes i = code most (get_or codes i 0) ∷ []

-- a code, 0 or 1, and the float beside it where the code is `givenCode`: a margin where it is not auto, a maximum where
-- there is one
abbrev pub beside_at : Kind → ℕ → List Float → List ℕ → ℕ → List Number
beside_at kind givenCode xs codes i =
    code 1 (get_or codes i 0) ∷ optional (eqb (get_or codes i 0) givenCode) (float kind (get_or xs i nan))
