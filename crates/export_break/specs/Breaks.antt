-- Greedy and balanced breaking as they cross to C: numbers and slices, a code for the kind of the limit, and each
-- exported call as the call inside it. Assumes nothing.
use Rattle.std.specs.Prelude.{◌≡◌, List, [], ◌∷◌, ℕ, Float}
use Rattle.checks.specs.Domain.{Number, code, Answer}
use Rattle.keywords.specs.Space.{space_of}
use Rattle.break_greedy.specs.Calls.{GreedyResult, greedy_call}
use Rattle.balance.specs.Calls.{BreakLent, BalancedCall}
use Rattle.export_answer.specs.declared.CAnswer.{CAnswer}
use Rattle.export_answer.specs.Crossing.{c_answer}

-- the kind is a code of the container, one of 0 to 2, so that another is refusal 5 there
abbrev pub kind_number : ℕ → List Number
kind_number kind = code 2 kind ∷ []

-- greedy breaking from C
abbrev pub greedy_from_c : ℕ → Float → Float → List Float → List ℕ → GreedyResult
greedy_from_c kind limit gap sizes before = greedy_call (kind_number kind) (space_of kind limit) gap sizes before

-- what a call leaves: the answer as it crosses, and the counts
pub record Crossed (r : CAnswer) (counts : List ℕ) (b : GreedyResult) : Type 0 where
  pub answer : r ≡ c_answer b.answer
  pub cells : counts ≡ b.counts

-- balanced breaking from C
pub record BalancedFromC (kind : ℕ) (limit gap : Float) (minimum : ℕ) (sizes : List Float) (before : BreakLent)
    (r : CAnswer) (after : BreakLent) : Type 0 where
  pub inside : Answer
  pub told : r ≡ c_answer inside
  pub called : BalancedCall (kind_number kind) (space_of kind limit) gap minimum sizes before inside after
