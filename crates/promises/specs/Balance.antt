-- The theorem of the balanced call that docs/PROMISES.md names. No contract cites it; proofs/Balance.antt fills it.
-- Assumes nothing.
use Rattle.std.specs.Prelude.{◌≡◌, List, ℕ, Float}
use Rattle.checks.specs.Domain.{Number, Answer}
use Rattle.keywords.specs.declared.AvailableSpace.{AvailableSpace}
use Rattle.balance.specs.Calls.{BreakLent, BalancedCall}

pub record Promised : Type 0 where
  -- the contract of `balanced` leaves no choice
  pub no_choice : (codes : List Number) (limit : AvailableSpace) (gap : Float) (minimum : ℕ) (sizes : List Float)
      (b : BreakLent) (r s : Answer) (a c : BreakLent) → BalancedCall codes limit gap minimum sizes b r a
      → BalancedCall codes limit gap minimum sizes b s c → (r ≡ s) × (a ≡ c)
