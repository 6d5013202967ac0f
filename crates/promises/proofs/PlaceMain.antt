-- The promise of the call for the main axis, filled. Assumes nothing.
use Rattle.place_main.proofs.MainCalled.{main_one}
use Rattle.promises.specs.PlaceMain.{Promised}

pub promised : Promised
promised = record {
  main_one = main_one;
}
