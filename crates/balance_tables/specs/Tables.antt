-- The tables that the rows are worked out from: fit ends, greedy counts, how far the first lines reach. Only contracts
-- of parts cite it. Assumes nothing.
use Rattle.std.specs.Prelude.{◌≡◌, ◌⊎◌, List, Bool, true, false, ℕ, suc, ◌+◌, ◌^◌, ◌≤◌, ◌<◌, length, get_or, Float}
use Rattle.std.specs.Float.{nan}
use Rattle.std.specs.Float.Ieee.{le}
use Rattle.std.specs.declared.option.Option.{Option}
use Rattle.std.specs.declared.option.Option.TheVariants.{Some, None}
use Rattle.balance_rule.specs.Natural.{Limit, Fits}
use Rattle.balance_rule.specs.Sizes.{pre, FitEnd}
use Rattle.balance_sums.specs.Whole.{Holds}
use Rattle.balance_sums.specs.Sums.{size_f, ends}
use Rattle.balance_sums.specs.declared.Units.{Units}

-- ---- the limit, as the code has it: the most that a line of several items may measure, where there is such a bound
abbrev pub fits_f : Option Units → Float → Bool
fits_f None size = true
fits_f (Some most) size = le size most.0

pub record LimitIs (limit : Limit) (most : Option Units) : Type 0 where
  pub yes-fits : (y : Float) (a : ℕ) → Holds y a → fits_f most y ≡ true → Fits limit a
  pub no_fit : (y : Float) (a : ℕ) → Holds y a → fits_f most y ≡ false → ¬ Fits limit a

-- what the sums of the sizes are
pub record SumsAre (gap : ℕ) (xs : List ℕ) (sums : List Float) (gapF : Float) : Type 0 where
  pub count : length sums ≡ length xs
  pub gap_is : Holds gapF gap
  pub sums_are : (i : ℕ) → i < length xs → Holds (get_or sums i nan) (pre gap xs (suc i))
  pub small : pre gap xs (length xs) ≤ 2 ^ 24

-- ---- how far a line from s stretches
pub record Stretched (sums : List Float) (gap : Float) (most : Option Units) (s from r : ℕ) : Type 0 where
  pub lo : from ≤ r
  pub hi : r < length sums
  pub taken : (r ≡ from) ⊎ (fits_f most (size_f sums gap s r) ≡ true)

pub record StretchOut (sums : List Float) (gap : Float) (most : Option Units) (s from r : ℕ) : Type 0 where
  pub so_far : Stretched sums gap most s from r
  pub stopped : r + 1 < length sums → fits_f most (size_f sums gap s (r + 1)) ≡ false

pub record FitsOut (sums : List Float) (gap : Float) (most : Option Units) (fit : List ℕ) : Type 0 where
  pub lo : (s : ℕ) → s < length sums → s ≤ get_or fit s 0
  pub hi : (s : ℕ) → s < length sums → get_or fit s 0 < length sums
  pub are : (L : Limit) (g : ℕ) (xs : List ℕ) → SumsAre g xs sums gap → LimitIs L most → (s : ℕ)
      → s < length sums → FitEnd L g xs s (ends fit s)

-- ---- the greedy counts, from the end down to `start`
pub record CountsFrom (fit greedy : List ℕ) (start : ℕ) : Type 0 where
  pub end : get_or greedy (length fit) 0 ≡ 0
  pub few : (t : ℕ) → start ≤ t → t ≤ length fit → get_or greedy t 0 + t ≤ length fit
  pub step : (t : ℕ) → start ≤ t → t < length fit → get_or greedy t 0 ≡ 1 + get_or greedy (ends fit t) 0

-- the fit ends' range: what an access needs
-- (a clause, and no type: the table is a part of a lent list, which is filled before it is read)
pub record FitRange (fit : List ℕ) : Type 0 where
  pub lo : (s : ℕ) → s < length fit → s ≤ get_or fit s 0
  pub hi : (s : ℕ) → s < length fit → get_or fit s 0 < length fit

-- ---- what the rows ask of the tables, whatever they stand for
-- a later start's line ends no sooner
pub record Rising (fit : List ℕ) : Type 0 where
  pub rises : (s t : ℕ) → s ≤ t → t < length fit → get_or fit s 0 ≤ get_or fit t 0

-- a later start needs no more lines
pub record Falling (greedy : List ℕ) : Type 0 where
  pub falls : (s t : ℕ) → s ≤ t → t ≤ length greedy → get_or greedy t 0 ≤ get_or greedy s 0

-- where line j starts no further than cell j, line j + 1 starts no further than the next cell
pub record Reaches (fit reach : List ℕ) : Type 0 where
  pub step : (j s : ℕ) → j + 1 < length fit → s ≤ get_or reach j 0 → s < length fit
      → ends fit s ≤ get_or reach (j + 1) 0

-- the first start that needs at most `lines` lines
pub record FirstFor (greedy : List ℕ) (lines r : ℕ) : Type 0 where
  pub enough : get_or greedy r 0 ≤ lines
  pub early : (t : ℕ) → t < r → lines < get_or greedy t 0
