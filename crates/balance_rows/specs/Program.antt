-- What the rows are given and what they give. Only contracts of parts cite it. Assumes nothing.
use Rattle.std.specs.Prelude.{◌≡◌, List, ℕ, suc, ◌+◌, ◌-◌, ◌*◌, ◌≤◌, ◌<◌, length, get_or, Float}
use Rattle.std.specs.Float.{nan}
use Rattle.balance_rule.specs.Natural.{Limit}
use Rattle.balance_rule.specs.Dp.{Argmin, Feas, Usable, Costs}
use Rattle.balance_rule.specs.Sizes.{square_at, FitEnd, GreedyCounts, ZeroAt}
use Rattle.balance_sums.specs.Whole.{Holds}
use Rattle.balance_sums.specs.Sums.{ends}
use Rattle.balance_choice.specs.Cells.{Ghost, value, RowIn, Choice}
use Rattle.balance_tables.specs.Tables.{SumsAre, FitRange, Falling, Reaches}

abbrev pub count_at : List ℕ → ℕ → ℕ
count_at greedy s = get_or greedy s 0

-- what the tables are
pub record TablesAre (L : Limit) (g : ℕ) (xs : List ℕ) (sums : List Float) (gap : Float)
    (fit greedy : List ℕ) : Type 0 where
  pub sums_are : SumsAre g xs sums gap
  pub fits_are : (s : ℕ) → s < length xs → FitEnd L g xs s (ends fit s)
  pub counts_are : GreedyCounts (length xs) (ends fit) (count_at greedy)

-- a start that line j of a division may have
pub record Within (reach : List ℕ) (j s : ℕ) : Type 0 where
  pub from : j ≤ s
  pub to : s ≤ get_or reach j 0

-- what a row of totals is, k lines following, for the starts of line j
pub record PrevIs (g : ℕ) (xs : List ℕ) (fit greedy reach : List ℕ) (prev : List Float) (k j : ℕ) : Type 0 where
  pub costs : (t : ℕ) → Feas (length xs) (count_at greedy) t k → Within reach j t
      → Costs (length xs) (ends fit) (ZeroAt xs) (square_at g xs) k t (value prev t)
  pub holds : (t : ℕ) → Feas (length xs) (count_at greedy) t k → Within reach j t
      → Holds (get_or prev t nan) (value prev t)

-- what keeps a row's accesses in range
pub record RowSafe (sums : List Float) (fit : List ℕ) (prev : List Float) (lines : ℕ) : Type 0 where
  pub few : length prev ≤ 1024
  pub sums_length : length sums ≡ length prev
  pub fit_length : length fit ≡ length prev
  pub range : FitRange fit
  pub two : 2 ≤ lines
  pub enough : lines ≤ length prev

-- the starts from lo to `last` can be filled, and what can follow a line starts at `seen` or later
pub record RowFor (q : Ghost) (fit : List ℕ) (lo last seen : ℕ) : Type 0 where
  pub seen_enough : q.G seen ≤ q.k
  pub seen_early : (t : ℕ) → t < seen → q.k < q.G t
  pub enough : (s : ℕ) → lo ≤ s → s ≤ length q.xs → q.G s ≤ suc q.k
  pub from : (s : ℕ) → lo ≤ s → q.lo ≤ s + 1
  pub to : (s : ℕ) → lo ≤ s → s ≤ last → s < length q.xs → ends fit s ≤ q.hi

pub record OneRow (sums : List Float) (gap : Float) (fit : List ℕ) (prev : List Float) (lines lo last seen : ℕ)
    (prev' : List Float) (opts : List ℕ) : Type 0 where
  pub out : (q : Ghost) → RowIn q sums gap fit prev (length prev - lines) → RowFor q fit lo last seen
      → (s : ℕ) → lo ≤ s → s ≤ last → Feas (length q.xs) q.G s (suc q.k)
      → Choice q fit prev s (get_or opts s 0) × Holds (get_or prev' s nan)
      (square_at q.gap q.xs s (ends opts s) + value prev (ends opts s))

-- ---- the rows together
-- the choices with k lines following, for the starts of line j, stand in `opts` from `base` on
pub record RowKept (g : ℕ) (xs : List ℕ) (fit greedy reach : List ℕ) (opts : List ℕ) (base k j : ℕ) : Type 0 where
  pub v : ℕ → ℕ
  pub costs : (u : ℕ) → Feas (length xs) (count_at greedy) u k → Within reach (j + 1) u
      → Costs (length xs) (ends fit) (ZeroAt xs) (square_at g xs) k u (v u)
  pub choices : (s : ℕ) → Feas (length xs) (count_at greedy) s (suc k) → Within reach j s
      → Argmin (Usable (length xs) (ends fit) (count_at greedy) (ZeroAt xs) k s) (λ t. square_at g xs s t + v t)
      (get_or opts (base + s) 0 + 1)

pub record RowsSoFar (sums : List Float) (gap : Float) (fit greedy reach : List ℕ) (K : ℕ) (prev₀ prev : List Float)
    (opts : List ℕ) (lines : ℕ) : Type 0 where
  pub out : (L : Limit) (g : ℕ) (xs : List ℕ) → TablesAre L g xs sums gap fit greedy
      → PrevIs g xs fit greedy reach prev₀ 1 (K - 1)
      → PrevIs g xs fit greedy reach prev (lines - 1) (K - (lines - 1))
      × ((k : ℕ) → 1 ≤ k → k + 1 < lines → RowKept g xs fit greedy reach opts ((k - 1) * length sums) k
      (K - (k + 1)))

-- the same for all rows
pub record RowBase (sums : List Float) (fit greedy reach : List ℕ) (prev : List Float) : Type 0 where
  pub few : length prev ≤ 1024
  pub sums_length : length sums ≡ length prev
  pub fit_length : length fit ≡ length prev
  pub greedy-length : length greedy ≡ length prev
  pub reach_length : length reach ≡ length prev
  pub range : FitRange fit
  pub falling : Falling greedy
  pub reaches : Reaches fit reach
