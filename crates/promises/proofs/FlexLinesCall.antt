-- The promises of the call over many lines, filled. Assumes nothing.
use Rattle.flex_lines_call.proofs.Independent.{lines_determined, line_independent}
use Rattle.promises.specs.FlexLinesCall.{Promised}

pub promised : Promised
promised = record {
  lines_determined = lines_determined;
  line_independent = line_independent;
}
