-- `grid::on_grid` meets its contract: what is not finite is not on the grid. Assumes nothing.
use mathlib.Core.Path.{ap, ◌∙◌}
use mathlib.Core.Bool.{Bool, ◌&&◌}
use Rattle.grid.proofs.Fields.{finite_grid}
use Rattle.grid.proofs.on_grid.Goals as goal

pub returns : goal.returns
returns c =
    let b = c.is_multiple.result in
    ap (λ (a : Bool). a && b) c.is_finite.ensures ∙ finite_grid c.args.x b c.is_multiple.ensures
