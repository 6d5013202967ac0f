-- Marks: the first of checks 3, 4 and 5 that a number fails, and its place, in one number, so that the least mark is
-- the refusal that comes first. Only contracts of parts, the checks, and the theorems `accepted` and `line_reach` cite
-- it; `judged-checked` of proofs/ says that it is document 01's order of checks. Beside them what passing the checks
-- says of a number and of a whole input. Assumes nothing.
use Rattle.std.specs.Prelude.{◌≡◌, true, false, cond, List, [], ◌∷◌, ℕ, zero, suc, ◌+◌, ◌-◌, ◌<◌, min, T, ltb, length, get_or, Float}
use Rattle.std.specs.Float.{nan}
use Rattle.grid.specs.Values.{Length}
use Rattle.checks.specs.Domain.{Number, not_finite, off_grid, out_of_range, Input, or_else, Answer, Verdict, done}
use Rattle.checks.specs.declared.Place.{Place}
use Rattle.checks.specs.declared.Place.TheVariants.{Container, At}
use Rattle.checks.specs.declared.Refusal.TheVariants.{NotFinite, OffGrid, OutOfRange}
use Rattle.std.specs.declared.result.Result.TheVariants.{Ok, Err}

-- the place is 0 for the container and i + 1 for item i; 6144 is no mark
unfoldable pub mark : Number → ℕ → ℕ
mark x place = cond (not_finite x) place (cond (off_grid x) (2048 + place) (cond (out_of_range x) (4096 + place) 6144))

-- the least mark of the numbers of one place
unfoldable pub least_of : List Number → ℕ → ℕ
least_of [] place = 6144
least_of (x ∷ l) place = min (mark x place) (least_of l place)

-- the least of the first n of f, and 6144
unfoldable pub least_up_to : (ℕ → ℕ) → ℕ → ℕ
least_up_to f zero = 6144
least_up_to f (suc n) = min (least_up_to f n) (f n)

-- the least mark of an input
abbrev pub least_mark : Input → ℕ
least_mark input = min (least_of input.container 0) (least_up_to (λ i. least_of (input.item i) (i + 1)) input.count)

abbrev pub place_of : ℕ → Place
place_of zero = Container
place_of (suc i) = At i

-- what the least mark says
unfoldable pub judged : ℕ → Verdict
judged n = or_else (ltb n 2048) (Err (NotFinite (place_of n)))
    (or_else (ltb n 4096) (Err (OffGrid (place_of (n - 2048))))
    (or_else (ltb n 6144) (Err (OutOfRange (place_of (n - 4096)))) (Ok tt)))

-- every number of the list is a length
pub record Lengths (xs : List Float) : Type 0 where
  pub each : (i : ℕ) → i < length xs → Length (get_or xs i nan)

-- none of checks 3, 4 and 5 refuses a number
pub record Fine (x : Number) : Type 0 where
  pub finite : not_finite x ≡ false
  pub grid : off_grid x ≡ false
  pub range : out_of_range x ≡ false

-- nor any number of a list
abbrev pub AllFine : List Number → Type 0
AllFine [] = T true
AllFine (x ∷ l) = Fine x × AllFine l

-- nor any of an input
pub record SoundInput (input : Input) : Type 0 where
  pub container : AllFine input.container
  pub items : (i : ℕ) → i < input.count → AllFine (input.item i)

-- ---- the answer of a verdict

abbrev pub as_answer : Verdict → ℕ → ℕ → Answer
as_answer (Ok tt) lines rounds = done lines rounds
as_answer (Err why) lines rounds = Err why
