-- The promise of the call for a container's lines, filled. Assumes nothing.
use Rattle.place_lines_call.proofs.LinesCalled.{lines_one}
use Rattle.promises.specs.PlaceLinesCall.{Promised}

pub promised : Promised
promised = record {
  lines_one = lines_one;
}
