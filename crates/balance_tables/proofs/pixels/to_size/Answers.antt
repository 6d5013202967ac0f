-- `balance_tables::pixels::to_size` meets its contract: by the two ways of its test.
use Rattle.balance_tables.proofs.PixelsLaws.{size_above, size_below}
use Rattle.balance_tables.proofs.pixels.to_size.Goals as goal

pub returns-then-v : goal.returns-then-v
returns-then-v c = rw c.to_units.ensures (size_above c.args.v c.if-v.true)

pub returns-else-v : goal.returns-else-v
returns-else-v c = size_below c.args.v c.if-v.false
