-- The part from k * n on is lent, and comes back as the list. Assumes nothing.
use Rattle.pass_container.proofs.ColumnLaws.{stored_of}
use Rattle.pass_container.proofs.columns.store_column.Goals as goal

pub returns : goal.returns
returns c = let a = c.args in
    rw c.copy_from_slice.ensures.after (stored_of a.n a.k a.cells.now a.xs.now c.requires.0.inside c.requires.1)
