-- `checks_list::fine::are_fine_where` meets its contract. The loop's invariant: ok says it of the items passed. Assumes nothing.
use mathlib.Core.Path.{◌≡◌}
use mathlib.Core.Bool.{Bool, not, ◌||◌}
use mathlib.Core.List.{List}
use Prim.Native.Nat.{ℕ}
use lib.Dec.{eqb}
use lib.ListN.{get_or}
use lib.Ieee.{Float, nan}
use Rattle.checks.specs.declared.Kind.{Kind}
use Rattle.checks.specs.Domain.{float}
use Rattle.checks_number.specs.Bounds.{fine}
use Rattle.checks_list.specs.Every.{every}
use Rattle.checks_list.proofs.fine.are_fine_where.Given as goal

abbrev pub fineAt : Kind → List Float → List ℕ → ℕ → ℕ → Bool
fineAt kind xs codes taken i = not (eqb (get_or codes i 0) taken) || fine (float kind (get_or xs i nan))

abbrev pub invariant-loop-i : goal.invariant-loop-i
invariant-loop-i l = l.ok ≡ every (fineAt l.fn.kind l.xs l.codes l.taken) l.i
