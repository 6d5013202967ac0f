-- What only the contracts of the parts cite: a finished reader's answer, as the capture's. Assumes nothing.
use Rattle.std.specs.Prelude.{List, ℕ, ltb, take, Float, Ok, Err}
use Rattle.capture_format.specs.Reading.{as_read}
use Rattle.capture_feed.specs.Machine.{Finished}
use Rattle.capture_text.specs.Text.{Reply}
use Rattle.capture_text.specs.declared.Fault.TheVariants.{Broken}
use Rattle.capture.specs.Answer.{Refuses, ByCount}

-- the answer of a finished reader, which keeps 64 sizes, and the head as it was written
abbrev pub AnsweredTo : Finished → List Float → List ℕ → Reply → List ℕ → Type 0
AnsweredTo (Err at) room before r after = Refuses (Err (Broken at.0)) before r after
AnsweredTo (Ok said) room before r after =
    ByCount (ltb 64 said.items) (as_read said.head) (take said.items room) before r after
