-- The promise of the balanced call, filled. Assumes nothing.
use Rattle.balance.proofs.Call.{no_choice}
use Rattle.promises.specs.Balance.{Promised}

pub promised : Promised
promised = record {
  no_choice = no_choice;
}
