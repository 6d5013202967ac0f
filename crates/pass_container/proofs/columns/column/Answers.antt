-- List k is the part from k * n on. Assumes nothing.
use Rattle.pass_container.proofs.ColumnLaws.{part-column}
use Rattle.pass_container.proofs.columns.column.Goals as goal

pub returns : goal.returns
returns g c = part-column c.args.n c.args.k c.args.xs.now
