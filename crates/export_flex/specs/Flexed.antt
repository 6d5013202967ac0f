-- The calls that flex, as they cross to C: each exported call is the call inside it, and its answer the paper's values.
-- Assumes nothing.
use Rattle.std.specs.Prelude.{◌≡◌, List, ℕ, ℤ, Float}
use Rattle.checks.specs.Domain.{Answer}
use Rattle.flex.specs.Items.{Lists}
use Rattle.flex_line_call.specs.Call.{FlexAnswer, Values, values_of, FlexedLine}
use Rattle.flex_lines_call.specs.Lines.{FlexedByLine}
use Rattle.export_answer.specs.declared.CAnswer.{CAnswer}
use Rattle.export_answer.specs.Crossing.{where_code, where_index, c_answer}
use Rattle.export_flex.specs.declared.CFlexed.{CFlexed}

-- an answer's number and place, the free space and the rounds
abbrev pub c_flexed : Values → CFlexed
c_flexed v = record {
  number = v.number;
  at = where_code v.place;
  place = where_index v.place;
  free = v.free;
  rounds = v.rounds;
}

-- one line
pub record FlexedFromC (inner gap : Float) (ls : Lists) (r : CFlexed) (old new : List Float) : Type 0 where
  pub inside : FlexAnswer
  pub told : r ≡ c_flexed (values_of inside)
  pub flexed : FlexedLine inner gap ls inside old new

-- many lines
pub record FlexedLinesFromC (inner gap : Float) (counts : List ℕ) (ls : Lists) (r : CAnswer) (targets₀ : List Float)
    (free₀ : List ℤ) (rounds₀ : List ℕ) (targets : List Float) (free : List ℤ) (rounds : List ℕ) : Type 0 where
  pub inside : Answer
  pub told : r ≡ c_answer inside
  pub flexed : FlexedByLine inner gap counts ls inside targets₀ free₀ rounds₀ targets free rounds
