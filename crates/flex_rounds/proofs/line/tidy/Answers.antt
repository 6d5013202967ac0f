-- No target is -0.0: the first ones are cleaned, the others as they were. Assumes nothing.
use mathlib.Core.Path.{ap, ◌∙◌}
use native.Mathlib.Omega.{arith}
use lib.ListN.{get_or, set}
use lib.Ieee.{nan}
use Rattle.std.proofs.lemmas.List.{get_or_default}
use Rattle.std.proofs.lemmas.List.Edits.{map_over_more}
use Rattle.grid.specs.Grid.{cleaned}
use Rattle.flex_rounds.proofs.line.tidy.Goals as goal

pub loop-x-preserved : goal.loop-x-preserved
loop-x-preserved c =
    let l = c.loop-x in
    ap (set l.targets l.x-index) c.clean.ensures
    ∙ map_over_more cleaned c.args.targets.now l.targets l.x-index (get_or l.targets l.x-index nan) c.loop-x-test.true
    l.invariant (get_or_default l.targets l.x-index nan _ (omega (arith, l.auto.targets)))
