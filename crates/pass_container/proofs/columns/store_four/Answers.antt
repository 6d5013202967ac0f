-- Four lists stored one after another. Assumes nothing.
use Rattle.pass_container.proofs.ColumnLaws.{four_of}
use Rattle.pass_container.proofs.columns.store_four.Goals as goal

pub returns : goal.returns
returns c = four_of _ _ _ _ _ _ _ _ _ _ _ c.store_column.ensures c.store_column-2.ensures c.store_column-3.ensures c.store_column-4.ensures
