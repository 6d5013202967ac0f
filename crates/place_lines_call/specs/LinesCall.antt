-- The call for a container's lines: what it takes, checks and answers. Assumes nothing.
use Rattle.std.specs.Prelude.{List, [], ◌∷◌, ℕ, length, Float}
use Rattle.std.specs.declared.result.Result.{Result}
use Rattle.std.specs.declared.result.Result.TheVariants.{Ok, Err}
use Rattle.checks.specs.declared.Refusal.{Refusal}
use Rattle.checks.specs.Domain.{code, Input, Verdict, checked, then}
use Rattle.checks.specs.Shapes.{shape_of}
use Rattle.checks.specs.Lists.{float_at}
use Rattle.checks.specs.declared.Kind.TheVariants.{Worked}
use Rattle.keywords.specs.Alignment.{content_of}
use Rattle.place_size.specs.declared.container.Cross.{Cross}
use Rattle.place_checks.specs.declared.numbers.CrossNumbers.{CrossNumbers}
use Rattle.place_size.specs.Container.{read_cross}
use Rattle.place_checks.specs.Numbers.{cross_of, cross_numbers}
use Rattle.place_cross.specs.Lines.{inner_cross, line_sizes, line_offsets}

abbrev pub cross_lines_input : CrossNumbers → ℕ → List Float → Input
cross_lines_input c alignment lines = record {
  container = code 13 alignment ∷ cross_numbers c;
  count = length lines;
  item = λ i. float_at Worked lines i;
}

-- checks 1 to 5: a call without main sizes never gives 6
unfoldable pub cross_lines_verdict : CrossNumbers → ℕ → List Float → List ℕ → Verdict
cross_lines_verdict c alignment lines rooms =
    then (shape_of (length lines ∷ []) rooms (length lines)) (checked (cross_lines_input c alignment lines) (Ok tt))

-- the container's inner cross size, or why the call refuses
abbrev pub LinesAnswer : Type 0
LinesAnswer = Result Float Refusal

-- the call's answer, and its lent lists as it returns: the lines' sizes, and their offsets
pub record LinesResult : Type 0 where
  pub answer : LinesAnswer
  pub sizes : List Float
  pub offsets : List Float

abbrev pub lines_result : LinesAnswer → List Float → List Float → LinesResult
lines_result r s o = record { answer = r; sizes = s; offsets = o }

-- what the lines of a container come to
abbrev pub along : Cross → ℕ → List Float → List Float → List Float → LinesResult
along c alignment lines s o = let a = content_of alignment in lines_result (Ok (inner_cross c a lines))
    (line_sizes c a lines s) (line_offsets c a lines o)

-- a refusal changes no cell
abbrev pub lines_into : Verdict → CrossNumbers → ℕ → List Float → List Float → List Float → LinesResult
lines_into (Err why) c alignment lines s o = lines_result (Err why) s o
lines_into (Ok tt) c alignment lines s o = along (read_cross (cross_of c)) alignment lines s o

-- THE CALL ("Cross axis"): it refuses by checks 1 to 5 and changes nothing, or it answers with the inner cross size and
-- leaves the lines' sizes and offsets
abbrev pub lines_call : CrossNumbers → ℕ → List Float → List Float → List Float → LinesResult
lines_call c alignment lines s o =
    lines_into (cross_lines_verdict c alignment lines (length s ∷ length o ∷ [])) c alignment lines s o
