-- `best` leads among the ends seen so far.
use Rattle.balance_choice.proofs.Steps.{Leading}
use Rattle.balance_choice.proofs.Row.least.Given as goal

abbrev pub invariant-loop-end : goal.invariant-loop-end
invariant-loop-end l =
    Leading l.self.sums.up_to.now l.self.sums.gap.0 l.self.below.now l.base.0 l.first l.stop l.end l.best l.best_cost.0
