-- The theorem of the call for one line that docs/PROMISES.md names. No contract cites it; proofs/FlexLineCall.antt
-- fills it. Assumes nothing.
use Rattle.std.specs.Prelude.{◌≡◌, List, Float}
use Rattle.flex.specs.Items.{Lists}
use Rattle.flex_line_call.specs.Call.{FlexAnswer, FlexedLine}

pub record Promised : Type 0 where
  -- the contract of `flex_line` leaves no choice
  pub line_determined : (inner gap : Float) (ls : Lists) (old : List Float) (r s : FlexAnswer) (a b : List Float)
      → FlexedLine inner gap ls r old a → FlexedLine inner gap ls s old b → (r ≡ s) × (a ≡ b)
