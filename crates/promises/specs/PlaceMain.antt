-- The theorem of the call for the main axis that docs/PROMISES.md names. No contract cites it; proofs/PlaceMain.antt
-- fills it. Assumes nothing.
use Rattle.std.specs.Prelude.{◌≡◌, List, ℕ, Float}
use Rattle.place_main.specs.MainAxis.{LineLists}
use Rattle.place_main.specs.MainCall.{MainResult, main_call}

pub record Promised : Type 0 where
  -- the contract of `place_main` leaves no choice: answer and lent lists
  pub main_one : (inner gap : Float) (justify reversed : ℕ) (l : LineLists) (o s e : List Float) (a b : MainResult)
      → a ≡ main_call inner gap justify reversed l o s e → b ≡ main_call inner gap justify reversed l o s e → a ≡ b
