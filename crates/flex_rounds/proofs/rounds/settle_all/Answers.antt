-- The cells after a round: those before i are settled, those from i on as they were. Assumes nothing.
use lib.ListN.{length}
use Rattle.flex.specs.Steps.{settled}
use Rattle.lists.proofs.Each.{map_each}
use Rattle.flex_rounds.specs.Cells.{cell_at}
use Rattle.flex_rounds.proofs.Loop.{rewritten_all}
use Rattle.flex_rounds.proofs.rounds.settle_all.Goals as goal

pub returns : goal.returns
returns c =
    let a = c.args in
    rewritten_all
    (map_each (settled a.sum) (length a.items.now) (cell_at a.items.now a.frozen.now a.targets.now))
    c.loop-i.invariant c.loop-i-test.false
