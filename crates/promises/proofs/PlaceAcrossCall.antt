-- The promise of the call for the items across a line, filled. Assumes nothing.
use Rattle.place_across_call.proofs.AcrossCalled.{across_one}
use Rattle.promises.specs.PlaceAcrossCall.{Promised}

pub promised : Promised
promised = record {
  across_one = across_one;
}
