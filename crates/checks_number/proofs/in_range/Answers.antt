-- `checks_number::in_range` meets its contract: two comparisons with the bounds of a kind say what `inRange` says. Assumes nothing.
use mathlib.Core.Path.{ap, ◌∙◌}
use mathlib.Core.Bool.{◌&&◌}
use lib.Ieee.{le}
use Rattle.checks_number.specs.declared.Bounds.{Bounds}
use Rattle.checks_number.proofs.Fine.{in_bounds}
use Rattle.checks_number.proofs.in_range.Goals as goal

pub returns : goal.returns
returns c kind e = let x = c.args.x in ap (λ (b : Bounds). le x b.high && le b.low x) e ∙ in_bounds kind x
