-- The theorem of the call for a container's lines that docs/PROMISES.md names. No contract cites it;
-- proofs/PlaceLinesCall.antt fills it. Assumes nothing.
use Rattle.std.specs.Prelude.{◌≡◌, List, ℕ, Float}
use Rattle.place_checks.specs.declared.numbers.CrossNumbers.{CrossNumbers}
use Rattle.place_lines_call.specs.LinesCall.{LinesResult, lines_call}

pub record Promised : Type 0 where
  -- the contract of `place_lines` leaves no choice: answer and lent lists
  pub lines_one : (c : CrossNumbers) (alignment : ℕ) (lines s o : List Float) (a b : LinesResult)
      → a ≡ lines_call c alignment lines s o → b ≡ lines_call c alignment lines s o → a ≡ b
