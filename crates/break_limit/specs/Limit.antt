-- Document 01, "Break limit (first leaf)". Floats are only compared and picked here, never rounded. Assumes nothing.
use Rattle.std.specs.Prelude.{Bool, cond, ◌||◌, List, [], ◌∷◌, ◌++◌, Float}
use Rattle.grid.specs.Grid.{cleaned}
use Rattle.grid.specs.Floats.{lowered}
use Rattle.checks.specs.Domain.{Number, float, Input, checked, Verdict}
use Rattle.checks.specs.declared.Kind.TheVariants.{Length, Size}
use Rattle.keywords.specs.Space.{raised_to}
use Rattle.keywords.specs.declared.AvailableSpace.{AvailableSpace}
use Rattle.keywords.specs.declared.AvailableSpace.TheVariants.{Definite, MinContent, MaxContent}
use Rattle.break_limit.specs.declared.Query.{Query}
use Rattle.checks.specs.declared.Refusal.{Refusal}
use Rattle.std.specs.declared.result.Result.{Result}
use Rattle.keywords.specs.Space.{Bound}
use Rattle.std.specs.declared.option.Option.TheVariants.{None, Some}
use Rattle.std.specs.declared.result.Result.TheVariants.{Ok, Err}

-- "take the available definite number, or the maximum where there is none"
abbrev pub number_or : AvailableSpace → Float → Float
number_or (Definite x) maximum = x
number_or MinContent maximum = maximum
number_or MaxContent maximum = maximum

-- "if the container has no definite main size, lower it to the maximum"
abbrev pub under_maximum : Query → Float → Float
under_maximum q maximum =
    cond q.main_is_definite (number_or q.available maximum) (lowered (number_or q.available maximum) maximum)

-- a row, or a definite main size
abbrev pub keeps_space : Query → Bool
keeps_space q = q.is_row || q.main_is_definite

-- "With no maximum, a column without a definite main size turns a definite space into max-content; all else passes
-- unchanged."
abbrev pub without_maximum : Query → AvailableSpace → AvailableSpace
without_maximum q (Definite x) = cond (keeps_space q) (Definite (cleaned x)) MaxContent
without_maximum q MinContent = MinContent
without_maximum q MaxContent = MaxContent

-- "Else, with a maximum: .. the result is definite. With no maximum, .."
abbrev pub by_maximum : Query → Bound → AvailableSpace
by_maximum q None = without_maximum q q.available
by_maximum q (Some maximum) = Definite (cleaned (raised_to q.minimum (under_maximum q maximum)))

-- "If the known main size isn't definite: max-content. Else .."
abbrev pub break_limit : Query → AvailableSpace
break_limit q = cond q.known_is_definite (by_maximum q q.maximum) MaxContent

-- ---- the numbers that the call takes, all of them the container's, whatever the answer turns on; codes come before
-- them

abbrev pub space_numbers : AvailableSpace → List Number
space_numbers (Definite x) = float Length x ∷ []
space_numbers MinContent = []
space_numbers MaxContent = []

abbrev pub bound_numbers : Bound → List Number
bound_numbers None = []
bound_numbers (Some x) = float Size x ∷ []

abbrev pub limit_input : List Number → Query → Input
limit_input codes q = record {
  container = codes ++ (space_numbers q.available ++ (bound_numbers q.minimum ++ bound_numbers q.maximum));
  count = 0;
  item = λ i. [];
}

abbrev pub limit_verdict : List Number → Query → Verdict
limit_verdict codes q = checked (limit_input codes q) (Ok tt)

-- what the call answers: the space that a line may take, or a refusal
abbrev pub BreakLimit : Type 0
BreakLimit = Result AvailableSpace Refusal

abbrev pub limit_from : Verdict → Query → BreakLimit
limit_from (Ok tt) q = Ok (break_limit q)
limit_from (Err why) q = Err why

-- the whole call
abbrev pub limit_call : Query → BreakLimit
limit_call q = limit_from (limit_verdict [] q) q
