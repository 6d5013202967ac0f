-- The theorems of the checks that docs/PROMISES.md names. No contract cites it; proofs/Checks.antt fills it. Assumes
-- nothing.
use Rattle.std.specs.Prelude.{◌≡◌, ◌≤◌, Ok}
use Rattle.checks.specs.Domain.{Input, checked, then, Verdict}
use Rattle.checks.specs.Marks.{least_mark, judged, SoundInput}

pub record Promised : Type 0 where
  -- the least mark, which the code works out in one sweep, is document 01's order of checks, for up to 1,024 items
  pub judged-checked : (input : Input) → input.count ≤ 1024 → (rest : Verdict)
      → then (judged (least_mark input)) rest ≡ checked input rest
  -- where the checks pass, none of them refuses any number of the input, and what comes after them passes
  pub accepted : (input : Input) (rest : Verdict) → checked input rest ≡ Ok tt → SoundInput input × (rest ≡ Ok tt)
