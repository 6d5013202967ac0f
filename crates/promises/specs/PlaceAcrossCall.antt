-- The theorem of the call for the items across a line that docs/PROMISES.md names. No contract cites it;
-- proofs/PlaceAcrossCall.antt fills it. Assumes nothing.
use Rattle.std.specs.Prelude.{◌≡◌, List, ℕ, Float}
use Rattle.place_size.specs.CrossSize.{CrossLists}
use Rattle.place_across_call.specs.AcrossCall.{AcrossResult, across_call}

pub record Promised : Type 0 where
  -- the contract of `place_across` leaves no choice: answer and lent lists
  pub across_one : (line : Float) (reversed : ℕ) (ls : CrossLists) (alignment auto-size : List ℕ)
      (z s e o : List Float) (a b : AcrossResult) → a ≡ across_call line reversed ls alignment auto-size z s e o
      → b ≡ across_call line reversed ls alignment auto-size z s e o → a ≡ b
