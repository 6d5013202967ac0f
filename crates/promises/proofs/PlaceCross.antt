-- The promises of auto margins across a line, filled. Assumes nothing.
use Rattle.place_cross.proofs.AutoMargins.{start_long, end_long}
use Rattle.place_cross.proofs.ShortLine.{short_start, short_fills}
use Rattle.place_cross.proofs.Worked.{worked}
use Rattle.promises.specs.PlaceCross.{Promised}

pub promised : Promised
promised = record {
  start_long = start_long;
  end_long = end_long;
  short_start = short_start;
  short_fills = short_fills;
  worked = worked;
}
