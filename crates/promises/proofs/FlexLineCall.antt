-- The promise of the call for one line, filled. Assumes nothing.
use Rattle.flex_line_call.proofs.Determined.{line_determined}
use Rattle.promises.specs.FlexLineCall.{Promised}

pub promised : Promised
promised = record {
  line_determined = line_determined;
}
