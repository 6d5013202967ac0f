-- What the parts of a breaking call ask and ensure. Only contracts of parts cite it. Assumes nothing.
use Rattle.std.specs.Prelude.{◌≡◌, List, [], ◌∷◌, ◌++◌, ℕ, suc, ◌+◌, ◌≤◌, length, get_or, drop, pos, Float}
use Rattle.grid.specs.Grid.{sixty_fourths}
use Rattle.grid.specs.Values.{Length}
use Rattle.checks.specs.Marks.{Lengths}
use Rattle.keywords.specs.declared.AvailableSpace.{AvailableSpace}
use Rattle.keywords.specs.declared.AvailableSpace.TheVariants.{Definite, MinContent, MaxContent}
use Rattle.break_greedy.specs.Breaking.{limit_of, taken}
use Rattle.break_greedy.specs.Calls.{sizes_sum, units, count_cells}

-- a definite limit is a length
abbrev pub LengthLimit : AvailableSpace → Type 0
LengthLimit (Definite x) = Length x
LengthLimit MinContent = Unit {0}
LengthLimit MaxContent = Unit {0}

-- what breaking works on once the checks have passed
-- (a clause, and no type: `greedy_call` and `BalancedCall` speak of limit, gap and sizes one by one)
pub record Breakable (limit : AvailableSpace) (gap : Float) (sizes : List Float) : Type 0 where
  pub few : length sizes ≤ 1024
  pub each : Lengths sizes
  pub spacing : Length gap
  pub gap_not_below_0 : (z : ℕ) × (sixty_fourths gap ≡ pos z)
  pub limit_is : LengthLimit limit
  pub small : sizes_sum gap sizes ≤ 16777216

-- where the line that starts at an item ends: it takes that item, and then as many as fit
abbrev pub LineEnd : AvailableSpace → Float → List Float → ℕ → ℕ → Type 0
LineEnd limit gap sizes start r = r ≡ start + suc (taken (limit_of limit) (sixty_fourths gap)
    (get_or (units sizes) start (pos 0) ∷ []) (drop (suc start) (units sizes)))

-- the counts of the lines in the first cells, the others unchanged
pub record Counted (lines before : List ℕ) (r : ℕ) (after : List ℕ) : Type 0 where
  pub number : r ≡ length lines
  pub cells : after ≡ lines ++ drop r before

-- the same with 0 in the cells past the last line, of n
pub record Listed (n : ℕ) (lines before : List ℕ) (r : ℕ) (after : List ℕ) : Type 0 where
  pub number : r ≡ length lines
  pub cells : after ≡ count_cells n lines before
