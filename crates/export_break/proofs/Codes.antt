-- The kind of a limit is a code of the container: where it names no kind the checks refuse, whatever else is handed over, and where it names
-- one it changes nothing of what the checks say. Assumes nothing.
use mathlib.Core.Path.{◌≡◌, refl, sym, ap, ◌∙◌}
use mathlib.Core.Bool.{Bool}
use mathlib.Core.List.{List, []}
use Prim.Native.Nat.{ℕ, ◌≤◌, ◌<◌}
use borrow.Author.Tests.{le-leb, lt-leb}
use lib.Dec.{leb}
use lib.ListN.{length}
use lib.Ieee.{Float}
use Rattle.grid.specs.Grid.{sixty_fourths}
use Rattle.checks.specs.Marks.{as_answer}
use Rattle.std.specs.Prelude.{Ok, Err}
use Rattle.checks.specs.Domain.{Verdict, Answer}
use Rattle.keywords.specs.declared.AvailableSpace.{AvailableSpace}
use Rattle.break_greedy.specs.Breaking.{limit_of, greedy}
use Rattle.break_greedy.specs.Calls.{breaking_verdict, units, broken_into, greedy_call}
use Rattle.break_greedy.proofs.Accepted.{code_passes, code_fails}
use Rattle.balance.specs.Calls.{BreakLent, has_room, balanced_verdict, BalancedCall}
use Rattle.keywords.specs.Space.{space_of}
use Rattle.export_break.specs.Breaks.{kind_number, greedy_from_c}

-- a verdict that refused, as the answer of a call: no lines were made, so it does not matter which would have been
as_refused : (v : Verdict) (lines : List ℕ) (n : ℕ) (before : List ℕ) → ¬ (v ≡ Ok tt) → (as_answer v 0 0 ≡ (broken_into v lines n before).answer) × (before ≡ (broken_into v lines n before).counts)
as_refused (Ok tt) lines n before f = absurd (f refl)
as_refused (Err why) lines n before f = (refl, refl)

module _ (kind : ℕ) (space : AvailableSpace) (gap : Float) (sizes : List Float) (room : Bool) where
  pub never_passes : 2 < kind → ¬ (breaking_verdict (kind_number kind) space gap sizes room ≡ Ok tt)
  never_passes h = code_fails [] space gap sizes 2 kind room (lt-leb kind 2 h)

  pub as_without : kind ≤ 2 → breaking_verdict (kind_number kind) space gap sizes room ≡ breaking_verdict [] space gap sizes room
  as_without h = code_passes [] space gap sizes 2 kind room (le-leb kind 2 h)

module _ (kind : ℕ) (limit gap : Float) (sizes : List Float) (before : List ℕ) where
  pub unnamed : 2 < kind → {r : Answer} → r ≡ as_answer (breaking_verdict (kind_number kind) (space_of kind limit) gap sizes (leb (length sizes) (length before))) 0 0
      → (r ≡ (greedy_from_c kind limit gap sizes before).answer) × (before ≡ (greedy_from_c kind limit gap sizes before).counts)
  unnamed h e =
      let room = leb (length sizes) (length before) in
      let told = as_refused (breaking_verdict (kind_number kind) (space_of kind limit) gap sizes room) (greedy (limit_of (space_of kind limit)) (sixty_fourths gap) (units sizes)) (length sizes) before
      (never_passes kind (space_of kind limit) gap sizes room h) in
      (e ∙ told.0, told.1)

  pub named : kind ≤ 2 → greedy_call [] (space_of kind limit) gap sizes before ≡ greedy_from_c kind limit gap sizes before
  named h = ap (λ (w : Verdict). broken_into w (greedy (limit_of (space_of kind limit)) (sixty_fourths gap) (units sizes)) (length sizes) before) (sym (as_without kind (space_of kind limit) gap sizes (leb (length sizes) (length before)) h))

module _ (kind : ℕ) (limit gap : Float) (minimum : ℕ) (sizes : List Float) (before : BreakLent) where
  pub balanced_unnamed : 2 < kind → {r : Answer} → r ≡ as_answer (balanced_verdict (kind_number kind) (space_of kind limit) gap sizes before) 0 0
      → BalancedCall (kind_number kind) (space_of kind limit) gap minimum sizes before r before
  balanced_unnamed h e = record {
    refused = λ why g. (e ∙ ap (λ (w : Verdict). as_answer w 0 0) g, refl);
    accepted = λ g. absurd (never_passes kind (space_of kind limit) gap sizes (has_room (length sizes) before) h g);
  }

  pub balanced_named : kind ≤ 2 → {a : Answer} {after : BreakLent} → BalancedCall [] (space_of kind limit) gap minimum sizes before a after
      → BalancedCall (kind_number kind) (space_of kind limit) gap minimum sizes before a after
  balanced_named h call =
      let same = sym (as_without kind (space_of kind limit) gap sizes (has_room (length sizes) before) h) in
      record { refused = λ why g. call.refused why (same ∙ g); accepted = λ g. call.accepted (same ∙ g) }
