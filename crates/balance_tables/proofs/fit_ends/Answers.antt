-- `balance_tables::fit_ends` meets its contract: the ends before `start` are fit ends, and the next is no sooner (`fit_more` of TablesLaws.antt).
use Rattle.std.proofs.Common.{arith}
use Rattle.balance_tables.proofs.TablesLaws.{fit_more}
use Rattle.balance_tables.proofs.fit_ends.Goals as goal

pub loop-start-preserved : goal.loop-start-preserved
loop-start-preserved c =
    let l = c.loop-start in
    fit_more c.loop-start-test.true (omega (arith, l.auto.fit, c.requires.0)) l.invariant (rw c.max.ensures at c.stretch-end.ensures)
