-- The sum of the hypothetical outer sizes: the sum so far is that of the items so far. Assumes nothing.
use mathlib.Core.Path.{refl, ap, ap₂, sym, ◌∙◌}
use Rattle.grid.specs.Floats.{◌⊕◌}
use Rattle.flex.specs.Flex.{sum_from, outer, hypothetical}
use Rattle.flex_table.specs.Table.{item_in}
use Rattle.flex_table.proofs.Each.{total_take}
use Rattle.flex_rounds.proofs.line.hypothetical_sum.Goals as goal

pub loop-it-init : goal.loop-it-init
unfolding sum_from
loop-it-init c = refl

pub loop-it-preserved : goal.loop-it-preserved
loop-it-preserved c =
    let l = c.loop-it in
    let it = item_in c.args.items.now l.it-index in
    ap₂ (λ x y. x ⊕ y) l.invariant (c.outer_size-s.ensures ∙ ap (outer it) c.hypothetical_size.ensures)
    ∙ sym (total_take (λ it. outer it (hypothetical it)) c.args.items.now l.it-index c.loop-it-test.true)
