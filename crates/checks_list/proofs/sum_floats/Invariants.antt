-- `checks_list::sum_floats` meets its contract. The loop's invariant: the total is the sum of the items passed, each at most two lengths. Assumes nothing.
use mathlib.Core.Path.{◌≡◌}
use mathlib.Core.List.{List}
use Prim.Native.Nat.{ℕ, ◌+◌, ◌*◌, ◌≤◌}
use lib.IntN.{nat_abs}
use lib.ListN.{get_or}
use lib.Ieee.{Float, nan}
use Rattle.grid.specs.Grid.{sixty_fourths}
use Rattle.lists.specs.Cells.{sum_up_to}
use Rattle.checks_list.proofs.sum_floats.Given as goal

abbrev pub size : Float → ℕ
size x = nat_abs (sixty_fourths x)

abbrev pub outer : List Float → Float → ℕ → ℕ
outer xs gap i = size (get_or xs i nan) + size gap

pub record Inv (xs : List Float) (gap : Float) (total i : ℕ) : Type 0 where
  pub is : total ≡ sum_up_to (outer xs gap) i
  pub bound : total ≤ 33554432 * i

abbrev pub invariant-loop-x : goal.invariant-loop-x
invariant-loop-x l = Inv l.xs l.gap l.total l.x-index
