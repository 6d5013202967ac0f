-- `balance_choice::Row::least` meets its contract: `best` leads among the ends seen so far (`Leading` of Steps.antt).
use Rattle.balance_choice.proofs.Steps.{lead_take, lead_keep, lead_end}
use Rattle.balance_choice.proofs.Row.least.Goals as goal
use Rattle.balance_choice.proofs.Row.least.Goals.{then-beats, else-beats}

pub loop-end-preserved : goal.loop-end-preserved
loop-end-preserved c =
    let l = c.loop-end in
    let t = c.loop-end-test.true in
    elim c.if-beats.branch [
      | then-beats w ↦ rw (w.best-is, w.best_cost-is)
          (lead_take l.invariant t c.cost-cost.ensures (rw c.beats.ensures at w.if-beats.true))
      | else-beats w ↦ rw (w.best-is, w.best_cost-is)
          (lead_keep l.invariant t c.cost-cost.ensures (rw c.beats.ensures at w.if-beats.false))
    ]

pub returns : goal.returns
returns c = lead_end c.loop-end.invariant c.loop-end-test.false
