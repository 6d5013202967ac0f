-- The promise of the break limit, filled. Assumes nothing.
use Rattle.break_limit.proofs.Unique.{one-limit}
use Rattle.promises.specs.BreakLimit.{Promised}

pub promised : Promised
promised = record {
  one-limit = one-limit;
}
