-- The hypothetical outer size in whole sixty-fourths: no sum leaves an i32. Assumes nothing.
use mathlib.Core.Path.{sym, ap, ◌∙◌, subst}
use lib.Ieee.{Float}
use Rattle.grid.specs.Grid.{sixty_fourths}
use Rattle.grid.specs.Values.{Length}
use Rattle.flex.proofs.Units.{first-length, outer_added}
use Rattle.flex_table.proofs.sum.outer_units.Goals as goal

pub to_sixtyfourths-size-requires : goal.to_sixtyfourths-size-requires
to_sixtyfourths-size-requires c =
    subst (λ (x : Float). Length x) (sym c.hypothetical_size.ensures) (first-length c.args.it c.requires)

pub overflow_add-result-2 : goal.overflow_add-result-2
overflow_add-result-2 c = (outer_added c.args.it c.requires c.to_sixtyfourths-size.result.0
    c.to_sixtyfourths-start.result.0 c.to_sixtyfourths-end.result.0
    (c.to_sixtyfourths-size.ensures ∙ ap sixty_fourths c.hypothetical_size.ensures)
    c.to_sixtyfourths-start.ensures c.to_sixtyfourths-end.ensures).0

pub returns : goal.returns
returns c = (outer_added c.args.it c.requires c.to_sixtyfourths-size.result.0
    c.to_sixtyfourths-start.result.0 c.to_sixtyfourths-end.result.0
    (c.to_sixtyfourths-size.ensures ∙ ap sixty_fourths c.hypothetical_size.ensures)
    c.to_sixtyfourths-start.ensures c.to_sixtyfourths-end.ensures).1
