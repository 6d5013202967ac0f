-- What reading the division back is given, and gives. Only contracts of parts cite it. Assumes nothing.
use Rattle.std.specs.Prelude.{◌≡◌, List, ℕ, ◌+◌, ◌-◌, ◌*◌, ◌≤◌, ◌<◌, length, take}
use Rattle.balance_rule.specs.Dp.{Feas, Laws, BestAt}
use Rattle.balance_rule.specs.Sizes.{square_at, ZeroAt}
use Rattle.balance_sums.specs.Sums.{ends}
use Rattle.balance_tables.specs.Tables.{Reaches}
use Rattle.balance_rows.specs.Program.{count_at, RowKept}

-- the choices in `opts` are those of some items, for every row up to K lines, and K lines are possible
pub record RowsReadable (opts : List ℕ) (n K : ℕ) : Type 0 where
  pub g : ℕ
  pub xs : List ℕ
  pub fit : List ℕ
  pub greedy : List ℕ
  pub reach : List ℕ
  pub n_is : length xs ≡ n
  pub fit_length : length fit ≡ length xs
  pub reaches : Reaches fit reach
  pub law : Laws (length xs) (ends fit) (count_at greedy) (ZeroAt xs) (square_at g xs)
  pub rows : (k : ℕ) → 1 ≤ k → k + 1 < K + 1 → RowKept g xs fit greedy reach opts ((k - 1) * n) k (K - (k + 1))
  pub start : Feas (length xs) (count_at greedy) 0 K

pub record ReadOut (opts : List ℕ) (n K : ℕ) (counts : List ℕ) : Type 0 where
  pub best : (R : RowsReadable opts n K) → BestAt (length R.xs) (ends R.fit) (ZeroAt R.xs)
      (square_at R.g R.xs) 0 K (take K counts)
