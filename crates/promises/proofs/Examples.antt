-- The promise of document 01's examples, filled. Assumes nothing.
use Rattle.examples.proofs.Table.{table_holds}
use Rattle.promises.specs.Examples.{Promised}

pub promised : Promised
promised = record {
  table_holds = table_holds;
}
