-- The promise of a walk's lines by themselves, across, filled. Assumes nothing.
use Rattle.pass_walk_across.proofs.Placing.{across_independent}
use Rattle.promises.specs.PassWalkAcross.{Promised}

pub promised : Promised
promised = record {
  across_independent = across_independent;
}
