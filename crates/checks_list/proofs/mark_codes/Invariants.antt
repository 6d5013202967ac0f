-- The least mark of a list of codes: m is that of the codes passed. Assumes nothing.
use mathlib.Core.Path.{◌≡◌}
use mathlib.Core.List.{List}
use Prim.Native.Nat.{ℕ, ◌+◌}
use lib.ListN.{get_or}
use Rattle.checks.specs.Domain.{code}
use Rattle.checks.specs.Marks.{mark, least_up_to}
use Rattle.checks_list.proofs.mark_codes.Given as goal

abbrev pub marks : ℕ → List ℕ → ℕ → ℕ
marks most codes i = mark (code most (get_or codes i 0)) (i + 1)

abbrev pub invariant-loop-i : goal.invariant-loop-i
invariant-loop-i l = l.m.0 ≡ least_up_to (marks l.most l.codes) l.i
