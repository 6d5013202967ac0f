-- The theorems of a capture's answer that docs/PROMISES.md names. No contract cites it; proofs/Capture.antt fills it.
-- Assumes nothing.
use Rattle.std.specs.Prelude.{◌≡◌, ◌↔◌, List, ℕ, length, replicate, Float, Ok}
use Rattle.capture_format.specs.Reading.{Reading, reading, as_written, as_read}
use Rattle.capture_format.specs.Written.{Numbers, Readable, capture_bytes, sizes_said}
use Rattle.capture_text.specs.Text.{Reply}
use Rattle.capture.specs.Answer.{CaptureAnswered}
use Rattle.break_greedy.specs.Calls.{count_cells}
use Rattle.capture_format.specs.Reading.{one_each}
use Rattle.capture.specs.Answer.{capture_verdict}
use Rattle.capture.proofs.OldCaptures.{old, Named}

pub record Promised : Type 0 where
  -- the contract of `read` leaves no choice, whatever the bytes are read as
  pub one_answer : (before : List ℕ) (r s : Reply) (a c : List ℕ) (reading : Reading)
      → CaptureAnswered reading before r a → CaptureAnswered reading before s c → (r ≡ s) × (a ≡ c)
  -- of every list that breaking accepts, min-content with any minimum, and max-content with 65,535, name the same
  -- division
  pub same_division : (gap : Float) (minimum : ℕ) (sizes : List Float) (d : List ℕ)
      → capture_verdict (old gap minimum) sizes ≡ Ok tt
      → Named (old gap minimum) sizes d ↔ Named (one_each gap) sizes d
  -- for any bytes: what the contract allows with min-content kept it allows as captures are read now, and nothing else
  pub same_allowed : (before : List ℕ) (r : Reply) (after l : List ℕ)
      → CaptureAnswered (reading as_written l) before r after ↔ CaptureAnswered (reading as_read l) before r after
  -- so both have one and the same answer, place and cells
  pub same_reply : (l before : List ℕ) (r s : Reply) (a c : List ℕ)
      → CaptureAnswered (reading as_written l) before r a → CaptureAnswered (reading as_read l) before s c
      → (r ≡ s) × (a ≡ c)
  -- a capture with limit kind 1 that is accepted has as many lines as items, and its counts are ones
  pub one_a_line : (before : List ℕ) (k : ℕ) (after : List ℕ) (c : Numbers) → Readable c → c.limit-kind ≡ 1
      → CaptureAnswered (reading as_read (capture_bytes c)) before (Ok k) after → (k ≡ length (sizes_said c))
      × (after ≡ count_cells (length (sizes_said c)) (replicate (length (sizes_said c)) 1) before)
