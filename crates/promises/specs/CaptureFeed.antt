-- The theorems of the reader that docs/PROMISES.md names. No contract cites it; proofs/CaptureFeed.antt fills it.
-- Assumes nothing.
use Rattle.std.specs.Prelude.{◌≡◌, List, ◌++◌, ℕ, ◌≤◌, ◌^◌, length, Float}
use Rattle.capture_format.specs.Reading.{reading, as_written}
use Rattle.capture_feed.specs.Machine.{Fed, ReaderReady, with_sizes, fed, started, finished}
use Rattle.capture_feed.proofs.Resume.{resume}
use Rattle.capture_feed.proofs.Whole.{known_of, told_by}

pub record Promised : Type 0 where
  -- a reader fed byte by byte says what the plain reading says of the whole, the head as it was written
  pub said : (room : List Float) (l : List ℕ) → length room ≡ 64 → length l ≤ 2 ^ 63
      → let fd = fed (with_sizes started room) l in
      told_by (finished fd.reader) fd.sizes ≡ known_of (reading as_written l)
  -- what is still to come is read as if it had come at once
  pub fed_resumes : (l rest : List ℕ) (fd : Fed) → ReaderReady fd.reader (length l) → length fd.sizes ≡ 64
      → resume (fed fd l) rest ≡ resume fd (l ++ rest)
  -- and bursts of any length make no difference
  pub bursts : (fd : Fed) (l m : List ℕ) → fed (fed fd l) m ≡ fed fd (l ++ m)
