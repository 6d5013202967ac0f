-- Document 01, "Domain and refusal numbers", in its own order: what a number may be, the six checks, and what an answer
-- says. Assumes nothing.
use Rattle.std.specs.Prelude.{Bool, true, false, not, cond, ◌&&◌, ◌||◌, List, [], ◌∷◌, ℕ, zero, suc, ltb, leb, Float, ⊤}
use Rattle.std.specs.Float.{binary32}
use Rattle.std.specs.Float.Ieee.{le, of_bits}
use Rattle.std.specs.Float.Ieee.Scale.{finite}
use Rattle.grid.specs.Grid.{on_grid, within}
use Rattle.checks.specs.declared.Kind.{Kind}
use Rattle.checks.specs.declared.Kind.TheVariants.{Length, Margin, Size, Factor, Worked}
use Rattle.checks.specs.declared.Place.{Place}
use Rattle.checks.specs.declared.Place.TheVariants.{Container, At}
use Rattle.checks.specs.declared.Refusal.{Refusal}
use Rattle.checks.specs.declared.Refusal.TheVariants.{TooManyItems, TooLittleRoom, NotFinite, OffGrid}
use Rattle.checks.specs.declared.Refusal.TheVariants.{OutOfRange, SumTooLarge}
use Rattle.checks.specs.declared.Done.{Done}
use Rattle.std.specs.declared.result.Result.{Result}
use Rattle.std.specs.declared.result.Result.TheVariants.{Ok, Err}

-- ---- the numbers

-- A number that a call takes: a float of some kind; or, as `code most c`, the code c, which is to be one of 0 to
-- `most`.
pub data Number : Type 0 where
  float : Kind → Float → Number
  code : ℕ → ℕ → Number

-- "A length is on the grid": factors and worked-out numbers are not held to it.
abbrev pub gridded : Kind → Bool
gridded Length = true
gridded Margin = true
gridded Size = true
gridded Factor = false
gridded Worked = false

-- at least 0; -0.0 reads as 0
abbrev pub not_below0 : Float → Bool
not_below0 x = le (of_bits binary32 0) x

-- "Lengths, .. have magnitude at most 262,144 px, margins 131,072. Gaps, .. are at least 0. .. Grow and shrink lie in 0
-- to 1,024, any float. .. Worked-out targets and line sizes handed to a later step need only be finite (3) and at most
-- 16,777,216 px in magnitude (5)."
unfoldable pub in_range : Kind → Float → Bool
in_range Length x = within 262144 x
in_range Margin x = within 131072 x
in_range Size x = within 262144 x && not_below0 x
in_range Factor x = within 1024 x && not_below0 x
in_range Worked x = within 16777216 x

-- ---- checks 3 to 5 of one number

-- "a number is NaN or infinite"
unfoldable pub not_finite : Number → Bool
not_finite (float kind x) = not (finite x)
not_finite (code most c) = false

-- "a length is off the grid"
unfoldable pub off_grid : Number → Bool
off_grid (float kind x) = gridded kind && not (on_grid x)
off_grid (code most c) = false

-- "a single number is out of range"
unfoldable pub out_of_range : Number → Bool
out_of_range (float kind x) = not (in_range kind x)
out_of_range (code most c) = ltb most c

-- ---- the whole input

-- What a call takes: the container's numbers, and those of each of its items.
pub record Input : Type 0 where
  pub container : List Number
  pub count : ℕ
  pub item : ℕ → List Number

-- a number of the list fails
unfoldable pub any : (Number → Bool) → List Number → Bool
any fails [] = false
any fails (x ∷ l) = fails x || any fails l

-- the first i below n at which p holds, and n where there is none
unfoldable pub first : (ℕ → Bool) → ℕ → ℕ
first p zero = zero
first p (suc n) = cond (p zero) zero (suc (first (λ i. p (suc i)) n))

-- what checks say: they pass, or refuse
abbrev pub Verdict : Type 0
Verdict = Result ⊤ Refusal

abbrev pub or_else : Bool → Verdict → Verdict → Verdict
or_else true v rest = v
or_else false v rest = rest

-- "within one check the container comes first, then items from 0"; where nothing fails, the rest of the checks
unfoldable pub check : (Number → Bool) → (Place → Refusal) → Input → Verdict → Verdict
unfolding any first
check fails refusal input rest =
    let i = first (λ k. any fails (input.item k)) input.count in
    or_else (any fails input.container) (Err (refusal Container))
    (or_else (ltb i input.count) (Err (refusal (At i))) rest)

-- checks 3, 4 and 5 in that order, each over the whole input, and then the rest
abbrev pub checked : Input → Verdict → Verdict
checked input rest =
    check not_finite NotFinite input (check off_grid OffGrid input (check out_of_range OutOfRange input rest))

-- checks 1 and 2: "an input list has more than 1,024 items"; "lists of unequal length, or too little lent room"
abbrev pub shape : ℕ → Bool → Verdict
shape longest room =
    or_else (ltb 1024 longest) (Err TooManyItems)
    (or_else (not room) (Err TooLittleRoom) (Ok tt))

-- check 6: the sum over items of (|outer main size| + gap), in sixty-fourths, "is at most 16,777,216"
abbrev pub summed : ℕ → Verdict
summed total = or_else (not (leb total 16777216)) (Err SumTooLarge) (Ok tt)

-- v, and where it passed, the checks after it
abbrev pub then : Verdict → Verdict → Verdict
then (Ok tt) rest = rest
then (Err why) rest = Err why

-- ---- the answer

-- what a call answers: its lines and rounds, or a refusal
abbrev pub Answer : Type 0
Answer = Result Done Refusal

abbrev pub done : ℕ → ℕ → Answer
done lines rounds = Ok (record { lines = lines; rounds = rounds })

-- where an answer points: nowhere, at the container, or at an item or line (of answer 7: a byte)
pub data Where : Type 0 where
  nowhere : Where
  at_container : Where
  at_item : ℕ → Where

abbrev pub where_of : Place → Where
where_of Container = at_container
where_of (At i) = at_item i

-- the four values of an answer in document 01, which calls itself "this paper"
pub record Paper : Type 0 where
  pub number : ℕ
  pub place : Where
  pub lines : ℕ
  pub rounds : ℕ

abbrev pub refused_as : ℕ → Where → Paper
refused_as n w = record { number = n; place = w; lines = 0; rounds = 0 }

-- the table: "Every refusal returns number, place, 0 lines, 0 rounds"
abbrev pub refusal_of : Refusal → Paper
refusal_of TooManyItems = refused_as 1 at_container
refusal_of TooLittleRoom = refused_as 2 at_container
refusal_of (NotFinite p) = refused_as 3 (where_of p)
refusal_of (OffGrid p) = refused_as 4 (where_of p)
refusal_of (OutOfRange p) = refused_as 5 (where_of p)
refusal_of SumTooLarge = refused_as 6 at_container

abbrev pub paper : Answer → Paper
paper (Ok d) = record { number = 0; place = nowhere; lines = d.lines; rounds = d.rounds }
paper (Err why) = refusal_of why
