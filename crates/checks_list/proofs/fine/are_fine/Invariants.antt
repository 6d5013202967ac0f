-- `checks_list::fine::are_fine` meets its contract. The loop's invariant: ok says it of the numbers passed. Assumes nothing.
use mathlib.Core.Path.{◌≡◌}
use mathlib.Core.Bool.{Bool}
use mathlib.Core.List.{List}
use Prim.Native.Nat.{ℕ}
use lib.ListN.{get_or}
use lib.Ieee.{Float, nan}
use Rattle.checks.specs.declared.Kind.{Kind}
use Rattle.checks.specs.Domain.{float}
use Rattle.checks_number.specs.Bounds.{fine}
use Rattle.checks_list.specs.Every.{every}
use Rattle.checks_list.proofs.fine.are_fine.Given as goal

abbrev pub fineAt : Kind → List Float → ℕ → Bool
fineAt kind xs i = fine (float kind (get_or xs i nan))

abbrev pub invariant-loop-x : goal.invariant-loop-x
invariant-loop-x l = l.ok ≡ every (fineAt l.fn.kind l.xs) l.x-index
