-- What the breaking calls take, check and answer (document 01, "Domain and refusal numbers" and "Breaking"). Assumes
-- nothing.
use Rattle.std.specs.Prelude.{Bool, List, [], ◌∷◌, ◌++◌, map, ℕ, ◌+◌, ◌-◌, leb, length, get_or, drop, replicate, ℤ, nat_abs, Float}
use Rattle.std.specs.Float.{nan}
use Rattle.grid.specs.Grid.{sixty_fourths}
use Rattle.checks.specs.Domain.{Number, float, Input, checked, shape, summed, then, Answer, Verdict, done}
use Rattle.lists.specs.Cells.{sum_up_to}
use Rattle.checks.specs.declared.Kind.TheVariants.{Length, Size}
use Rattle.keywords.specs.declared.AvailableSpace.{AvailableSpace}
use Rattle.break_limit.specs.Limit.{space_numbers}
use Rattle.break_greedy.specs.Breaking.{limit_of, greedy}
use Rattle.std.specs.declared.result.Result.TheVariants.{Ok, Err}

-- the numbers that a breaking call takes: codes that came before the limit, the limit, the gap, and the items' outer
-- main sizes
abbrev pub breaking_input : List Number → AvailableSpace → Float → List Float → Input
breaking_input codes limit gap sizes = record {
  container = codes ++ (space_numbers limit ++ (float Size gap ∷ []));
  count = length sizes;
  item = λ i. float Length (get_or sizes i nan) ∷ [];
}

-- "The sum over items of (|outer main size| + gap)"
abbrev pub sizes_sum : Float → List Float → ℕ
sizes_sum gap sizes =
    sum_up_to (λ i. nat_abs (sixty_fourths (get_or sizes i nan)) + nat_abs (sixty_fourths gap)) (length sizes)

-- checks 1 to 6 of a breaking call; `room` says that the lent lists are long enough
unfoldable pub breaking_verdict : List Number → AvailableSpace → Float → List Float → Bool → Verdict
breaking_verdict codes limit gap sizes room =
    then (shape (length sizes) room) (checked (breaking_input codes limit gap sizes) (summed (sizes_sum gap sizes)))

-- sizes in whole sixty-fourths
abbrev pub units : List Float → List ℤ
units sizes = map sixty_fourths sizes

-- "n cells for each answer list (by line, as counts, cells past the last line get 0)", and the cells past those
-- unchanged
abbrev pub count_cells : ℕ → List ℕ → List ℕ → List ℕ
count_cells n lines before = lines ++ (replicate (n - length lines) 0 ++ drop n before)

-- a call's answer, and its counts as it returns
pub record GreedyResult : Type 0 where
  pub answer : Answer
  pub counts : List ℕ

abbrev pub greedy_result : Answer → List ℕ → GreedyResult
greedy_result r counts = record { answer = r; counts = counts }

abbrev pub broken_into : Verdict → List ℕ → ℕ → List ℕ → GreedyResult
broken_into (Ok tt) lines n before = greedy_result (done (length lines) 0) (count_cells n lines before)
broken_into (Err why) lines n before = greedy_result (Err why) before

-- the whole greedy call, with the codes that came before the limit
abbrev pub greedy_call : List Number → AvailableSpace → Float → List Float → List ℕ → GreedyResult
greedy_call codes limit gap sizes before =
    broken_into (breaking_verdict codes limit gap sizes (leb (length sizes) (length before)))
    (greedy (limit_of limit) (sixty_fourths gap) (units sizes)) (length sizes) before
