-- The promises of a walk's lines by themselves, filled. Assumes nothing.
use Rattle.pass_walk.proofs.Spacing.{main_independent}
use Rattle.pass_walk.proofs.Sizing.{sizes_independent}
use Rattle.promises.specs.PassWalk.{Promised}

pub promised : Promised
promised = record {
  main_independent = main_independent;
  sizes_independent = sizes_independent;
}
