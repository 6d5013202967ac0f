-- What the call for one line answers (document 01, "Domain and refusal numbers" and "Flexible lengths"). Assumes
-- nothing.
use Rattle.std.specs.Prelude.{◌≡◌, List, ℕ, length, ℤ, pos, Float}
use Rattle.grid.specs.declared.Sixtyfourths.{Sixtyfourths}
use Rattle.grid.specs.Grid.{cleaned}
use Rattle.std.specs.declared.result.Result.{Result}
use Rattle.std.specs.declared.result.Result.TheVariants.{Ok, Err}
use Rattle.checks.specs.Domain.{Verdict, checked, summed, then, Where, nowhere, refusal_of}
use Rattle.checks.specs.declared.Refusal.{Refusal}
use Rattle.flex.specs.declared.Item.{Item}
use Rattle.flex.specs.Flex.{outer_sum, Flexed}
use Rattle.flex.specs.Items.{Lists, items_of}
use Rattle.flex_checks.specs.Input.{flex_shape, input_of}
use Rattle.flex_rounds.specs.declared.line.Flexing.{Flexing}

-- ---- checks 1 to 6 of a call with so much room

unfoldable pub line_verdict : Float → Float → Lists → ℕ → Verdict
line_verdict inner gap ls room =
    then (flex_shape ls room) (checked (input_of inner gap ls) (summed (outer_sum (cleaned gap) (items_of ls))))

-- ---- the answer

-- the free space and the rounds of a line, or a refusal
abbrev pub FlexAnswer : Type 0
FlexAnswer = Result Flexing Refusal

abbrev pub flexed : Sixtyfourths → ℕ → FlexAnswer
flexed free rounds = Ok (record { free = free; rounds = rounds })

-- a refusal changes no cell; where the checks passed, the line is flexed
abbrev pub LineAnswered : Verdict → Float → Float → List Item → FlexAnswer → List Float → List Float → Type 0
LineAnswered v inner gap items (Ok line) old new = (v ≡ Ok tt) × Flexed inner gap items line.free.0 line.rounds old new
LineAnswered v inner gap items (Err why) old new = (v ≡ Err why) × (new ≡ old)

abbrev pub FlexedLine : Float → Float → Lists → FlexAnswer → List Float → List Float → Type 0
FlexedLine inner gap ls r old new =
    LineAnswered (line_verdict inner gap ls (length old)) (cleaned inner) (cleaned gap) (items_of ls) r old new

-- ---- the paper's values: number, place and rounds by its table, and the free space, which is 0 where the call is
-- refused

pub record Values : Type 0 where
  pub number : ℕ
  pub place : Where
  pub free : ℤ
  pub rounds : ℕ

abbrev pub values_of : FlexAnswer → Values
values_of (Ok line) = record { number = 0; place = nowhere; free = line.free.0; rounds = line.rounds }
values_of (Err why) = record {
  number = (refusal_of why).number;
  place = (refusal_of why).place;
  free = pos 0;
  rounds = (refusal_of why).rounds;
}
