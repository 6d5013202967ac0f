-- `checks_list::mark_floats` meets its contract. The loop's invariant: m is the least mark of the items passed. Assumes nothing.
use mathlib.Core.Path.{◌≡◌}
use mathlib.Core.List.{List}
use Prim.Native.Nat.{ℕ, ◌+◌}
use lib.ListN.{get_or}
use lib.Ieee.{Float, nan}
use Rattle.checks.specs.declared.Kind.{Kind}
use Rattle.checks.specs.Domain.{float}
use Rattle.checks.specs.Marks.{mark, least_up_to}
use Rattle.checks_list.proofs.mark_floats.Given as goal

abbrev pub marks : Kind → List Float → ℕ → ℕ
marks kind xs i = mark (float kind (get_or xs i nan)) (i + 1)

abbrev pub invariant-loop-i : goal.invariant-loop-i
invariant-loop-i l = l.m.0 ≡ least_up_to (marks l.kind l.xs) l.i
