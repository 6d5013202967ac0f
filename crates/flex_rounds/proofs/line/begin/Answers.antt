-- The first cells: those before i are the definition's, those from i on as they were. Assumes nothing.
use Rattle.flex.specs.Flex.{start_cell}
use Rattle.flex_table.proofs.Items.{map_items}
use Rattle.flex_rounds.proofs.Loop.{rewritten_all}
use Rattle.flex_rounds.proofs.line.begin.Goals as goal

pub returns : goal.returns
returns c =
    rewritten_all (map_items (start_cell c.args.growing) c.args.items.now) c.loop-i.invariant c.loop-i-test.false
