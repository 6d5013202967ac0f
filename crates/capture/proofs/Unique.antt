-- The contract of `read` leaves no choice: any two results that it allows, count cells included, are equal. By cases of the reading and of the
-- checks; where they pass, since one division alone is the chosen one. Assumes nothing.
use mathlib.Core.Path.{◌≡◌, sym, ap, ◌∙◌}
use mathlib.Core.Bool.{Bool, true, false}
use mathlib.Core.List.{List}
use Prim.Native.Nat.{ℕ}
use lib.Dec.{ltb}
use lib.ListN.{length}
use lib.Ieee.{Float}
use Rattle.grid.specs.Grid.{sixty_fourths}
use Rattle.checks.specs.Domain.{Verdict}
use Rattle.std.specs.Prelude.{Ok, Err}
use Rattle.break_greedy.specs.Breaking.{limit_of}
use Rattle.break_greedy.specs.Calls.{units, count_cells}
use Rattle.balance_rule.proofs.Unique.{balanced_one}
use Rattle.capture_format.specs.declared.Head.{Head}
use Rattle.capture_text.specs.Text.{Reply}
use Rattle.capture_format.specs.Reading.{Reading, whole, broken}
use Rattle.capture.specs.Answer.{capture_verdict, ByVerdict, ByCount, CaptureAnswered}

module _ (before : List ℕ) (r s : Reply) (a c : List ℕ) where
  by_verdict : (v : Verdict) (head : Head) (sizes : List Float) → ByVerdict v head sizes before r a → ByVerdict v head sizes before s c → (r ≡ s) × (a ≡ c)
  by_verdict (Ok tt) head sizes p q =
      let d = balanced_one (limit_of head.limit) (sixty_fourths head.gap) (units sizes) head.minimum p.division q.division p.balanced q.balanced in
      (p.lines ∙ ap (λ (l : List ℕ). Ok (length l)) d ∙ sym q.lines, p.cells ∙ ap (λ (l : List ℕ). count_cells (length sizes) l before) d ∙ sym q.cells)
  by_verdict (Err why) head sizes p q = (p.0 ∙ sym q.0, p.1 ∙ sym q.1)

  by_count : (b : Bool) (head : Head) (sizes : List Float) → ByCount b head sizes before r a → ByCount b head sizes before s c → (r ≡ s) × (a ≡ c)
  by_count true head sizes p q = (p.0 ∙ sym q.0, p.1 ∙ sym q.1)
  by_count false head sizes p q = by_verdict (capture_verdict head sizes) head sizes p q

  pub one_answer : (reading : Reading) → CaptureAnswered reading before r a → CaptureAnswered reading before s c → (r ≡ s) × (a ≡ c)
  one_answer (broken place) p q = (p.0 ∙ sym q.0, p.1 ∙ sym q.1)
  one_answer (whole head sizes) p q = by_count (ltb 64 (length sizes)) head sizes p q
