-- The balanced division of accepted sizes, by the plain rule, and the lent work cells after it. Only contracts of
-- parts cite it. Assumes nothing.
use Rattle.std.specs.Prelude.{◌≡◌, List, ◌++◌, ℕ, ◌-◌, length, replicate, Float}
use Rattle.grid.specs.Grid.{sixty_fourths}
use Rattle.keywords.specs.declared.AvailableSpace.{AvailableSpace}
use Rattle.break_greedy.specs.Breaking.{limit_of}
use Rattle.break_greedy.specs.Calls.{units}
use Rattle.balance_rule.specs.Rule as rule

-- the division, and its counts by line with 0 in the cells past the last line
pub record BalancedCounts (limit : AvailableSpace) (gap : Float) (minimum : ℕ) (sizes : List Float) (r : ℕ)
    (counts : List ℕ) : Type 0 where
  pub division : List ℕ
  pub balanced : rule.Balanced (limit_of limit) (sixty_fourths gap) (units sizes) minimum division
  pub lines : r ≡ length division
  pub counts_are : counts ≡ division ++ replicate (length sizes - length division) 0

-- a list of which every cell is now zero
abbrev pub Cleared : {A : Type 0} → A → List A → List A → Type 0
Cleared zero before now = now ≡ replicate (length before) zero
