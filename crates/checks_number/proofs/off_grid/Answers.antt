-- `checks_number::off_grid` meets its contract: a kind that is free of the grid is never off it. Assumes nothing.
use mathlib.Core.Path.{◌≡◌, refl, ap, ap₂, ◌∙◌}
use mathlib.Core.Bool.{Bool, true, false, not, ◌&&◌}
use Rattle.checks.specs.Domain.{gridded, off_grid}
use Rattle.checks_number.specs.declared.Bounds.{Bounds}
use Rattle.checks_number.proofs.Fine.{free_is}
use Rattle.checks_number.proofs.off_grid.Goals as goal

twice : (b : Bool) → not (not b) ≡ b
twice true = refl
twice false = refl

pub returns : goal.returns
unfolding off_grid
returns c kind e = ap₂ (λ (p q : Bool). p && not q) (ap (λ (b : Bounds). not b.free) e ∙ ap not (free_is kind) ∙ twice (gridded kind)) c.on_grid.ensures
