-- `checks_list::fine::are_fine` meets its contract. The loop's invariant: ok says it of the numbers passed. Assumes nothing.
use mathlib.Core.Path.{◌≡◌, sym, ap, ap₂, ◌∙◌}
use mathlib.Core.Bool.{◌&&◌}
use native.Mathlib.Omega.{arith}
use lib.ListN.{length}
use Rattle.checks_list.specs.Every.{every}
use Rattle.checks_list.proofs.Every.{every-none, every_more}
use Rattle.checks_list.proofs.fine.are_fine.Goals as goal
use Rattle.checks_list.proofs.fine.are_fine.Invariants.{fineAt}

pub loop-x-init : goal.loop-x-init
loop-x-init c = sym (every-none (fineAt c.args.kind c.args.xs.now))

pub loop-x-preserved : goal.loop-x-preserved
loop-x-preserved c =
    ap₂ ◌&&◌ c.loop-x.invariant (c.is_fine-ok.ensures c.args.kind c.bounds_of-b.ensures)
    ∙ sym (every_more (fineAt c.args.kind c.args.xs.now) c.loop-x.x-index)

pub returns : goal.returns
returns c =
    let n : c.loop-x.x-index ≡ length c.args.xs.now = omega arith in
    c.loop-x.invariant ∙ ap (every (fineAt c.args.kind c.args.xs.now)) n
