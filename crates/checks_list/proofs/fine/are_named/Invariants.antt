-- `checks_list::fine::are_named` meets its contract. The loop's invariant: ok says it of the codes passed. Assumes nothing.
use mathlib.Core.Path.{◌≡◌}
use mathlib.Core.Bool.{Bool}
use mathlib.Core.List.{List}
use Prim.Native.Nat.{ℕ}
use lib.Dec.{leb}
use lib.ListN.{get_or}
use Rattle.checks_list.specs.Every.{every}
use Rattle.checks_list.proofs.fine.are_named.Given as goal

abbrev pub named_at : ℕ → List ℕ → ℕ → Bool
named_at most codes i = leb (get_or codes i 0) most

abbrev pub invariant-loop-code : goal.invariant-loop-code
invariant-loop-code l = l.ok ≡ every (named_at l.most l.codes) l.code-index
