-- What the functions of a whole run are given, and give, by the rule over natural numbers. Only contracts of parts cite
-- it. Assumes nothing.
use Rattle.std.specs.Prelude.{◌≡◌, List, ◌++◌, ℕ, ◌-◌, ◌≤◌, length, take, replicate, Float}
use Rattle.std.specs.declared.option.Option.{Option}
use Rattle.balance_rule.specs.Natural.{Limit, Balanced}
use Rattle.balance_sums.specs.declared.Units.{Units}
use Rattle.balance_tables.specs.Tables.{SumsAre, LimitIs}
use Rattle.balance_tables.specs.Pixels.{SizesAre}

-- of the sums
pub record BalanceIn (sums : List Float) (gap : Float) (limit : Option Units) : Type 0 where
  pub L : Limit
  pub g : ℕ
  pub xs : List ℕ
  pub sums_are : SumsAre g xs sums gap
  pub limit_is : LimitIs L limit

pub record BalanceOut (sums : List Float) (gap : Float) (limit : Option Units) (minimum r : ℕ)
    (counts : List ℕ) : Type 0 where
  pub few : r ≤ length sums
  pub balanced : (I : BalanceIn sums gap limit) → Balanced I.L I.g I.xs minimum (take r counts)

-- what a run is given
pub record RunIn (sizes : List Float) (gap : Float) (limit : Option Units) : Type 0 where
  pub L : Limit
  pub g : ℕ
  pub xs : List ℕ
  pub sizes_are : SizesAre g xs sizes gap
  pub limit_is : LimitIs L limit

-- the division, and its counts by line with 0 in the cells past the last line
pub record RunOut (sizes : List Float) (gap : Float) (limit : Option Units) (minimum r : ℕ)
    (counts : List ℕ) : Type 0 where
  pub division : List ℕ
  pub balanced : (I : RunIn sizes gap limit) → Balanced I.L I.g I.xs minimum division
  pub lines : r ≡ length division
  pub counts_are : counts ≡ division ++ replicate (length sizes - length division) 0
