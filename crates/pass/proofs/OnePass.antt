-- The contract of the pass leaves no choice: any two results that it allows are equal. Assumes nothing.
use mathlib.Core.Path.{◌≡◌, sym, ap, ◌∙◌}
use mathlib.Core.Bool.{Bool}
use mathlib.Core.List.{List}
use Prim.Native.Nat.{ℕ}
use lib.ListN.{length}
use lib.Ieee.{Float}
use Rattle.checks.specs.Domain.{checked, shape, summed}
use Rattle.checks.proofs.Verdicts.{not_both, same_why}
use Rattle.std.specs.declared.result.Result.TheVariants.{Ok, Err}
use Rattle.checks.proofs.Checks.{then_passed}
use Rattle.pass_container.specs.declared.Container.{Container}
use Rattle.pass_container.specs.Container.{break_mode}
use Rattle.pass_checks.specs.Checks.{pass_input, pass_sum, pass_room, pass_verdict}
use Rattle.pass_checks.proofs.Rooms.{roomy_of}
use Rattle.pass.specs.Laid.{PassLent}
use Rattle.pass.proofs.OneLaid.{laid_one}
use Rattle.pass.specs.Pass.{PassAnswer, laid_out, PassCall}

done : {k k' sum sum' : ℕ} {inner inner' : Float} → k ≡ k' → sum ≡ sum' → inner ≡ inner' → laid_out k sum inner ≡ laid_out k' sum' inner'
done p q r = cc

passed_shape : (c : Container) (n : ℕ) (x : List Float) (codes : List ℕ) (room : Bool) → pass_verdict c n x codes room ≡ Ok tt → shape n room ≡ Ok tt
unfolding pass_verdict
passed_shape c n x codes room e = (then_passed (shape n room) (checked (pass_input c n x codes) (summed (pass_sum c n x codes))) e).0

-- ANY TWO RESULTS THAT THE CONTRACT ALLOWS ARE EQUAL
pub one_pass : (c : Container) (n : ℕ) (x : List Float) (codes : List ℕ) (b : PassLent) (r s : PassAnswer) (a d : PassLent) → PassCall c n x codes b r a → PassCall c n x codes b s d → (r ≡ s) × (a ≡ d)
one_pass c n x codes b (Err w) (Err z) a d p q = (ap Err (same_why p.0 q.0), p.1 ∙ sym q.1)
one_pass c n x codes b (Err w) (Ok r) a d p q = absurd (not_both q.0 p.0)
one_pass c n x codes b (Ok r) (Err w) a d p q = absurd (not_both p.0 q.0)
one_pass c n x codes b (Ok r) (Ok s) a d p q =
    let room = pass_room n (break_mode c) (length x) (length codes) (length b.placed) (length b.lines) (length b.counts) (length b.rounds) (length b.free) (length b.work) (length b.sums) in
    let g = roomy_of n (break_mode c) (length x) (length codes) (length b.placed) (length b.lines) (length b.counts) (length b.rounds) (length b.free) (length b.work) (length b.sums) (passed_shape c n x codes room p.0) in
    let o = laid_one c n x codes b (record { few = g.few; numbers_long = g.numbers_long; codes_long = g.codes_long }) g.placed_room p.1 q.1 in
    (done o.0 o.1 o.2, o.3)
