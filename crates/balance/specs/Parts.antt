-- What only the contracts of the call's parts cite: the room of the lent lists, and what the search leaves in them.
-- Assumes nothing.
use Rattle.std.specs.Prelude.{◌≡◌, List, ℕ, ◌+◌, ◌*◌, ◌≤◌, length, take, drop, replicate, Float}
use Rattle.std.specs.Float.{binary64}
use Rattle.std.specs.Float.Ieee.{of_bits}
use Rattle.grid.specs.Grid.{sixty_fourths}
use Rattle.keywords.specs.declared.AvailableSpace.{AvailableSpace}
use Rattle.break_greedy.specs.Breaking.{limit_of}
use Rattle.break_greedy.specs.Calls.{units, count_cells}
use Rattle.balance_rule.specs.Rule.{Balanced}
use Rattle.balance.specs.Calls.{BreakLent}

-- the room of the lent lists for n items, as the checks show it
-- (a clause, and no type: C lends them one by one)
abbrev pub Roomy : ℕ → BreakLent → Type 0
Roomy n l = (n ≤ length l.counts) × (n * n + 3 * n ≤ length l.work) × (3 * n ≤ length l.sums)

-- what the search leaves of a lent list to work in: zeros in its first cells, and what lies past the named cells as it
-- was. The cells between may hold anything
pub record Left {A : Type 0} (zero : A) (first named : ℕ) (before after : List A) : Type 0 where
  pub front : take first after ≡ replicate first zero
  pub past : drop named after ≡ drop named before

-- the balanced division, and what the search leaves in the lists that a caller lends
pub record Searched (limit : AvailableSpace) (gap : Float) (minimum : ℕ) (sizes : List Float) (before : BreakLent)
    (lines : ℕ) (after : BreakLent) : Type 0 where
  pub division : List ℕ
  pub balanced : Balanced (limit_of limit) (sixty_fourths gap) (units sizes) minimum division
  pub lines_are : lines ≡ length division
  pub counts_are : after.counts ≡ count_cells (length sizes) division before.counts
  pub work_left : Left 0 (length sizes * length sizes) (length sizes * length sizes + 3 * length sizes)
      before.work after.work
  pub sums_left : Left (of_bits binary64 0) (length sizes) (3 * length sizes) before.sums after.sums
