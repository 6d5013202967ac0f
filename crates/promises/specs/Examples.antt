-- The theorem of document 01's examples that docs/PROMISES.md names. No contract cites it; proofs/Examples.antt fills
-- it. Assumes nothing.
use Rattle.examples.specs.Table.{table, AllHold}

pub record Promised : Type 0 where
  -- P1 to P15, and the list of "Easy slips": one table, computed from the definitions that the contracts cite
  pub table_holds : AllHold table
