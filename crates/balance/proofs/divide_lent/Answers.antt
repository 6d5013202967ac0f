-- `balance::divide_lent` meets its contract: after the search the rest of the named work cells is cleared.
use Rattle.balance.specs.Calls.{break_lent}
use Rattle.balance.proofs.Call.{divides}
use Rattle.balance.proofs.divide_lent.Goals as goal

pub returns : goal.returns
returns c =
    let a = c.args in
    let d = c.search-lines in
    divides a.limit a.gap a.minimum a.sizes.now (break_lent a.counts.now a.work.now a.sums.now)
    (break_lent d.new.counts d.new.work d.new.sums) d.result _ _ d.ensures
    c.clear.ensures c.clear-2.ensures
