use Rattle.lists.proofs.Filling.{filling_more}
use Rattle.lists.proofs.clear.Goals as goal

pub loop-i-preserved : goal.loop-i-preserved
loop-i-preserved g c = filling_more c.args.zero c.args.cells.now c.loop-i-test.true c.requires.1 c.loop-i.invariant
