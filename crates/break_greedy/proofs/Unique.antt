-- The contract of greedy breaking leaves no choice: any two results that it allows, cells included, are equal. It is one equation. Assumes nothing.
use mathlib.Core.Path.{◌≡◌, sym, ap, ◌∙◌}
use mathlib.Core.List.{List}
use Prim.Native.Nat.{ℕ}
use lib.Ieee.{Float}
use Rattle.checks.specs.Domain.{Number, Answer}
use Rattle.keywords.specs.declared.AvailableSpace.{AvailableSpace}
use Rattle.break_greedy.specs.Calls.{GreedyResult, greedy_result, greedy_call}

pub one-greedy : (codes : List Number) (limit : AvailableSpace) (gap : Float) (sizes : List Float) (before : List ℕ) (r s : Answer) (after later : List ℕ)
    → greedy_result r after ≡ greedy_call codes limit gap sizes before
    → greedy_result s later ≡ greedy_call codes limit gap sizes before
    → (r ≡ s) × (after ≡ later)
one-greedy codes limit gap sizes before r s after later p e = (ap (λ (b : GreedyResult). b.answer) (p ∙ sym e), ap (λ (b : GreedyResult). b.counts) (p ∙ sym e))
