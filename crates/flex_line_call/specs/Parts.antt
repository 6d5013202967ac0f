-- What is left to answer of a call for one line that has passed checks 1 to 5. Only contracts of parts cite it.
-- Assumes nothing.
use Rattle.std.specs.Prelude.{List, Float}
use Rattle.grid.specs.Grid.{cleaned}
use Rattle.checks.specs.Domain.{summed}
use Rattle.flex.specs.Flex.{outer_sum}
use Rattle.flex.specs.Items.{Lists, items_of}
use Rattle.flex_line_call.specs.Call.{FlexAnswer, LineAnswered}

-- by check 6 alone
abbrev pub LineSummed : Float → Float → Lists → FlexAnswer → List Float → List Float → Type 0
LineSummed inner gap ls r old new =
    LineAnswered (summed (outer_sum (cleaned gap) (items_of ls))) (cleaned inner) (cleaned gap) (items_of ls) r old new
