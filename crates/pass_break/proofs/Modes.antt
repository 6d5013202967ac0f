-- Breaking by wrap mode, on plain values: what a mode's part asks is what the call asks, and what it gives is what the call gives. Assumes nothing.
use mathlib.Core.Path.{◌≡◌, refl, ap, subst}
use mathlib.Core.List.{List}
use Prim.Native.Nat.{ℕ, ◌≤◌}
use lib.ListN.{length}
use lib.Ieee.{Float}
use Rattle.grid.specs.Grid.{sixty_fourths}
use Rattle.keywords.specs.declared.AvailableSpace.{AvailableSpace}
use Rattle.break_greedy.specs.Breaking.{limit_of, greedy}
use Rattle.break_greedy.specs.Calls.{units}
use Rattle.break_greedy.specs.Steps.{Listed}
use Rattle.balance.specs.Calls.{BreakLent, break_lent, Divides}
use Rattle.balance.specs.Parts.{Roomy}
use Rattle.keywords.specs.declared.Mode.{Mode}
use Rattle.keywords.specs.declared.Mode.TheVariants.{Single, Greedy, Balanced}
use Rattle.pass_break.specs.Wrapping.{one_line, Wrapped}
use Rattle.pass_break.specs.Parts.{WrapRoom}

-- ---- room

pub room_counts : (mode : Mode) (n : ℕ) (l : BreakLent) → WrapRoom mode n l → n ≤ length l.counts
room_counts Single n l r = r
room_counts Greedy n l r = r
room_counts Balanced n l r = r.0

pub room_balanced : (mode : Mode) (n : ℕ) (l : BreakLent) → mode ≡ Balanced → WrapRoom mode n l → Roomy n l
room_balanced mode n l e r = subst (λ (m : Mode). WrapRoom m n l) e r

-- ---- what the parts give

module _ (limit : AvailableSpace) (gap : Float) (minimum : ℕ) (sizes : List Float) where
  pub single_wrapped : (mode : Mode) → mode ≡ Single → (r : ℕ) (before after work : List ℕ) (sums : List Float) → Listed (length sizes) (one_line (length sizes)) before r after
      → Wrapped mode limit gap minimum sizes (break_lent before work sums) r (break_lent after work sums)
  single_wrapped mode e r before after work sums l = rw e (record { lines = one_line (length sizes); lines_are = refl; number = l.number; cells = ap (λ (c : List ℕ). break_lent c work sums) l.cells })

  pub greedy_wrapped : (mode : Mode) → mode ≡ Greedy → (r : ℕ) (before after work : List ℕ) (sums : List Float) → Listed (length sizes) (greedy (limit_of limit) (sixty_fourths gap) (units sizes)) before r after
      → Wrapped mode limit gap minimum sizes (break_lent before work sums) r (break_lent after work sums)
  greedy_wrapped mode e r before after work sums l =
      rw e (record { lines = greedy (limit_of limit) (sixty_fourths gap) (units sizes); lines_are = refl; number = l.number; cells = ap (λ (c : List ℕ). break_lent c work sums) l.cells })

  pub balanced_wrapped : (mode : Mode) → mode ≡ Balanced → (b : BreakLent) (r : ℕ) (a : BreakLent) → Divides limit gap minimum sizes b r a → Wrapped mode limit gap minimum sizes b r a
  balanced_wrapped mode e b r a D = rw e (record { lines = D.division; lines_are = D.balanced; number = D.lines_are; cells = D.cells })
