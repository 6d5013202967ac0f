-- The least mark of the numbers that are given: m is that of the items passed. Assumes nothing.
use mathlib.Core.Path.{◌≡◌}
use mathlib.Core.List.{List}
use Prim.Native.Nat.{ℕ, ◌+◌}
use lib.Dec.{eqb}
use lib.ListN.{get_or}
use lib.Ieee.{Float, nan}
use Rattle.checks.specs.declared.Kind.{Kind}
use Rattle.checks.specs.Domain.{float}
use Rattle.checks.specs.Marks.{least_of, least_up_to}
use Rattle.checks.specs.Optional.{optional}
use Rattle.checks_list.proofs.mark_floats_where.Given as goal

abbrev pub marks : Kind → List Float → List ℕ → ℕ → ℕ → ℕ
marks kind xs codes taken i = least_of (optional (eqb (get_or codes i 0) taken) (float kind (get_or xs i nan))) (i + 1)

abbrev pub invariant-loop-i : goal.invariant-loop-i
invariant-loop-i l = l.m.0 ≡ least_up_to (marks l.kind l.xs l.codes l.taken) l.i
