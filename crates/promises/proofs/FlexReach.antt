-- The promises of how far targets reach, filled. Assumes nothing.
use Rattle.flex_reach.proofs.Reach.{reach}
use Rattle.flex_reach.proofs.Line.{line_reach}
use Rattle.promises.specs.FlexReach.{Promised}

pub promised : Promised
promised = record {
  reach = reach;
  line_reach = line_reach;
}
