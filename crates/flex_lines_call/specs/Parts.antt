-- What is left to answer of a call over many lines that checks 1 to 5 have passed. Only contracts of parts cite it.
-- Assumes nothing.
use Rattle.std.specs.Prelude.{List, ℕ, ◌≤◌, length, ℤ, Float}
use Rattle.grid.specs.Grid.{cleaned}
use Rattle.checks.specs.Domain.{Answer, summed}
use Rattle.flex.specs.Flex.{outer_sum}
use Rattle.flex.specs.Items.{Lists, count, item_at, items_of}
use Rattle.flex_lines_call.specs.Lines.{AnsweredLines}

-- there are n cells in each lent list
-- (a clause, and no type: C lends them one by one)
pub record Roomy (n : ℕ) (targets : List Float) (free : List ℤ) (rounds : List ℕ) : Type 0 where
  pub targets_room : n ≤ length targets
  pub free_room : n ≤ length free
  pub rounds_room : n ≤ length rounds

-- by check 6 alone
abbrev pub SummedLines : Float → Float → List ℕ → Lists → Answer → List Float → List ℤ → List ℕ → List Float → List ℤ
    → List ℕ → Type 0
SummedLines inner gap counts ls r targets₀ free₀ rounds₀ targets free rounds =
    AnsweredLines (summed (outer_sum (cleaned gap) (items_of ls))) (cleaned inner) (cleaned gap) (item_at ls) (count ls)
    counts r targets₀ free₀ rounds₀ targets free rounds
