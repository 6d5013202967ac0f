-- Document 01, "Records for the program": what a capture is answered with. Assumes nothing.
use Rattle.std.specs.Prelude.{◌≡◌, Bool, true, false, List, [], ℕ, ltb, length, Float, Ok, Err}
use Rattle.grid.specs.Grid.{sixty_fourths}
use Rattle.checks.specs.declared.Refusal.TheVariants.{TooManyItems}
use Rattle.checks.specs.Domain.{Verdict}
use Rattle.break_greedy.specs.Breaking.{limit_of}
use Rattle.break_greedy.specs.Calls.{breaking_verdict, units, count_cells}
use Rattle.balance_rule.specs.Rule.{Balanced}
use Rattle.capture_format.specs.Reading.{Reading, whole, broken}
use Rattle.capture_format.specs.declared.Head.{Head}
use Rattle.capture_text.specs.Text.{Reply}
use Rattle.capture_text.specs.declared.Fault.TheVariants.{Refused, Broken}

-- checks 3 to 6 of the numbers: there is always room
abbrev pub capture_verdict : Head → List Float → Verdict
capture_verdict head sizes = breaking_verdict [] head.limit head.gap sizes true

-- "The program does balanced breaking": the counts of the chosen division, by line
pub record CaptureDivided (head : Head) (sizes : List Float) (before : List ℕ) (r : Reply)
    (after : List ℕ) : Type 0 where
  pub division : List ℕ
  pub balanced : Balanced (limit_of head.limit) (sixty_fourths head.gap) (units sizes) head.minimum division
  pub lines : r ≡ Ok (length division)
  pub cells : after ≡ count_cells (length sizes) division before

-- a refusal changes no cell
abbrev pub Refuses : Reply → List ℕ → Reply → List ℕ → Type 0
Refuses refusal before r after = (r ≡ refusal) × (after ≡ before)

abbrev pub ByVerdict : Verdict → Head → List Float → List ℕ → Reply → List ℕ → Type 0
ByVerdict (Ok tt) head sizes before r after = CaptureDivided head sizes before r after
ByVerdict (Err why) head sizes before r after = Refuses (Err (Refused why)) before r after

-- "Over 64 items is answer 1", and else checks 3 to 6
abbrev pub ByCount : Bool → Head → List Float → List ℕ → Reply → List ℕ → Type 0
ByCount true head sizes before r after = Refuses (Err (Refused TooManyItems)) before r after
ByCount false head sizes before r after = ByVerdict (capture_verdict head sizes) head sizes before r after

-- THE ANSWER: 7 "given before any other check", and then the numbers'
abbrev pub CaptureAnswered : Reading → List ℕ → Reply → List ℕ → Type 0
CaptureAnswered (broken place) before r after = Refuses (Err (Broken place)) before r after
CaptureAnswered (whole head sizes) before r after = ByCount (ltb 64 (length sizes)) head sizes before r after
