-- The promise of the call for a line's cross size, filled. Assumes nothing.
use Rattle.place_size_call.proofs.SizeCalled.{size_one}
use Rattle.promises.specs.PlaceSizeCall.{Promised}

pub promised : Promised
promised = record {
  size_one = size_one;
}
