-- `greedy_checked` meets its contract: the counts, and then zeros in the cells past the last line (Counts.antt).
use Rattle.std.proofs.Common.{◌≤◌, length, ◌∙◌, arith}
use lib.ListN.{length-map}
use Rattle.grid.specs.Grid.{sixty_fourths}
use Rattle.break_greedy.specs.Breaking.{limit_of}
use Rattle.break_greedy.specs.Calls.{units}
use Rattle.break_greedy.proofs.Lines.{greedy_few}
use Rattle.break_greedy.proofs.Counts.{counted_long, listed}
use Rattle.break_greedy.proofs.greedy_checked.Goals as goal
use Rattle.break_greedy.proofs.greedy_checked.Goals.{After-greedy_counts-n}

-- there are no more lines than items
few : (c : After-greedy_counts-n) → c.greedy_counts-n.result ≤ length c.args.sizes.now
few c =
    let a = c.args in
    let f = greedy_few (limit_of a.limit) (sixty_fourths a.gap) (units a.sizes.now) in
    omega (arith, c.greedy_counts-n.ensures.number, length-map a.sizes.now sixty_fourths)

pub clear-requires : goal.clear-requires
clear-requires c =
    let f = few (goal.at.clear-requires c).After-greedy_counts-n in
    let l = counted_long c.greedy_counts-n.ensures (omega arith) in
    (omega arith, omega arith)

pub returns : goal.returns
returns c =
    let l = listed (length c.args.sizes.now) c.greedy_counts-n.ensures (few (goal.at.returns c).After-greedy_counts-n) in
    record { number = l.number; cells = c.clear.ensures ∙ l.cells }
