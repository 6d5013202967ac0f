-- What the call over many lines answers (document 01, "Flexible lengths": "Calls over many lines list free space and
-- rounds by line and answer the rounds' sum"). Assumes nothing.
use Rattle.std.specs.Prelude.{◌≡◌, List, ℕ, min, length, ℤ, Float}
use Rattle.grid.specs.Grid.{cleaned}
use Rattle.std.specs.declared.result.Result.TheVariants.{Ok, Err}
use Rattle.checks.specs.Domain.{Verdict, Answer, checked, summed, then}
use Rattle.flex.specs.declared.Item.{Item}
use Rattle.flex.specs.Flex.{outer_sum}
use Rattle.flex.specs.Items.{Lists, count, item_at, items_of}
use Rattle.flex_lines.specs.Lines.{FlexedLines}
use Rattle.flex_checks.specs.Counts.{lines_shape, lines_input}

-- ---- checks 1 to 6

-- "n cells for each answer list": what the shortest of them has
abbrev pub room_of : List Float → List ℤ → List ℕ → ℕ
room_of targets free rounds = min (length targets) (min (length free) (length rounds))

unfoldable pub lines_verdict : Float → Float → List ℕ → Lists → ℕ → Verdict
lines_verdict inner gap counts ls room = then (lines_shape counts ls room)
    (checked (lines_input inner gap counts ls) (summed (outer_sum (cleaned gap) (items_of ls))))

-- ---- the answer

-- a refusal changes no cell; where the checks passed, the lines are flexed
abbrev pub AnsweredLines : Verdict → Float → Float → (ℕ → Item) → ℕ → List ℕ → Answer → List Float → List ℤ → List ℕ
    → List Float → List ℤ → List ℕ → Type 0
AnsweredLines v inner gap item n counts (Err why) targets₀ free₀ rounds₀ targets free rounds =
    (v ≡ Err why) × (targets ≡ targets₀) × (free ≡ free₀) × (rounds ≡ rounds₀)
AnsweredLines v inner gap item n counts (Ok done) targets₀ free₀ rounds₀ targets free rounds = (v ≡ Ok tt)
    × (done.lines ≡ length counts)
    × FlexedLines inner gap item n counts done.rounds targets₀ free₀ rounds₀ targets free rounds

abbrev pub FlexedByLine : Float → Float → List ℕ → Lists → Answer → List Float → List ℤ → List ℕ → List Float → List ℤ
    → List ℕ → Type 0
FlexedByLine inner gap counts ls r targets₀ free₀ rounds₀ targets free rounds =
    AnsweredLines (lines_verdict inner gap counts ls (room_of targets₀ free₀ rounds₀)) (cleaned inner) (cleaned gap)
    (item_at ls) (count ls) counts r targets₀ free₀ rounds₀ targets free rounds
