-- THE WHOLE PASS on plain lists: checks 1 to 6, and then an accepted run. Assumes nothing.
use Rattle.std.specs.Prelude.{◌≡◌, List, ℕ, length, Float}
use Rattle.checks.specs.Domain.{Verdict}
use Rattle.checks.specs.declared.Refusal.{Refusal}
use Rattle.std.specs.declared.result.Result.{Result}
use Rattle.std.specs.declared.result.Result.TheVariants.{Ok, Err}
use Rattle.pass_container.specs.declared.Container.{Container}
use Rattle.pass_container.specs.Container.{break_mode}
use Rattle.pass_checks.specs.Checks.{pass_room, pass_verdict}
use Rattle.pass.specs.Laid.{PassLent, Laid}
use Rattle.pass.specs.declared.Layout.{Layout}

-- ---- the answer

abbrev pub PassAnswer : Type 0
PassAnswer = Result Layout Refusal

-- so many lines, the sum of their rounds, and the container's inner cross size
abbrev pub laid_out : ℕ → ℕ → Float → PassAnswer
laid_out lines sum inner = Ok (record { lines = lines; rounds = sum; inner_cross = inner })

-- ---- the call

-- checks 1 to 6, with the room of the lent lists
abbrev pub lent_verdict : Container → ℕ → List Float → List ℕ → PassLent → Verdict
lent_verdict c n x codes b =
    pass_verdict c n x codes (pass_room n (break_mode c) (length x) (length codes) (length b.placed) (length b.lines)
    (length b.counts) (length b.rounds) (length b.free) (length b.work) (length b.sums))

-- a refusal changes no cell
abbrev pub PassAnswered : Verdict → Container → ℕ → List Float → List ℕ → PassLent → PassAnswer → PassLent → Type 0
PassAnswered v c n x codes before (Err why) after = (v ≡ Err why) × (after ≡ before)
PassAnswered v c n x codes before (Ok l) after =
    (v ≡ Ok tt) × Laid c n x codes before l.lines l.rounds l.inner_cross after

-- THE CALL: it refuses by checks 1 to 6 and changes nothing, or its answer and its cells are those of an accepted run
abbrev pub PassCall : Container → ℕ → List Float → List ℕ → PassLent → PassAnswer → PassLent → Type 0
PassCall c n x codes before r after = PassAnswered (lent_verdict c n x codes before) c n x codes before r after
