-- The theorem of the break limit that docs/PROMISES.md names. No contract cites it; proofs/BreakLimit.antt fills it.
-- Assumes nothing.
use Rattle.std.specs.Prelude.{◌≡◌}
use Rattle.break_limit.specs.declared.Query.{Query}
use Rattle.break_limit.specs.Limit.{BreakLimit, limit_call}

pub record Promised : Type 0 where
  -- the contract of `break_limit` leaves no choice
  pub one-limit : (q : Query) (r s : BreakLimit) → r ≡ limit_call q → s ≡ limit_call q → r ≡ s
