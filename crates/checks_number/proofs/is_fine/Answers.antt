-- `checks_number::is_fine` meets its contract: `fine_is` of proofs/Fine. Assumes nothing.
use mathlib.Core.Path.{ap, ap₂, ◌∙◌}
use mathlib.Core.Bool.{Bool, ◌&&◌, ◌||◌}
use Rattle.checks_number.specs.declared.Bounds.{Bounds}
use Rattle.checks_number.proofs.Fine.{free_is, fine_is}
use Rattle.checks_number.proofs.is_fine.Goals as goal

pub returns : goal.returns
returns c kind e =
    let g = c.is_multiple.result in
    ap₂ (λ (p q : Bool). p && (q || g)) (c.in_range.ensures kind e) (ap (λ (b : Bounds). b.free) e ∙ free_is kind)
    ∙ fine_is kind c.args.x g c.is_multiple.ensures
