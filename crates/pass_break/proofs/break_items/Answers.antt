-- The table's outer sizes are broken. Assumes nothing.
use mathlib.Core.Path.{◌≡◌, sym, ap, ◌∙◌}
use lib.ListN.{length, take}
use Rattle.flex_table.specs.Table.{items_in}
use Rattle.balance.specs.Calls as balance
use Rattle.pass_break.specs.Outer.{outer_sizes}
use Rattle.pass_break.proofs.Given.{sizes_long, sizes_lent}
use Rattle.keywords.specs.Wrapping.{mode_of}
use Rattle.pass_container.specs.Container.{break_mode}
use Rattle.pass_break.proofs.BreakLaws.{breaks_as, broken_as}
use Rattle.pass_break.proofs.break_items.Goals as goal
use Rattle.pass_break.proofs.break_items.Goals.{After-mode_of, After-outer_sizes}

-- the sizes, as the frame holds them
sizes : (c : After-outer_sizes) → let a = c.args in take a.n c.outer_sizes.new.sizes ≡ outer_sizes (items_in a.table.now 0 a.n)
sizes c = let a = c.args in ap (take a.n) c.outer_sizes.ensures ∙ sizes_lent a.table.now a.n _

-- the mode, read from the container's code
mode : (c : After-mode_of) → c.mode_of.result ≡ break_mode c.args.c
mode c = c.mode_of.ensures ∙ ap mode_of c.wrap_of.ensures

pub slice_bounds-break_lines-end : goal.slice_bounds-break_lines-end
slice_bounds-break_lines-end c = let a = c.args in sym (ap length (sizes (goal.at.slice_bounds-break_lines-end c).After-outer_sizes) ∙ sizes_long a.table.now a.n)

pub break_lines-requires : goal.break_lines-requires
break_lines-requires c = let a = c.args in
    breaks_as (balance.break_lent a.counts.now a.work.now a.sums.now) (mode (goal.at.break_lines-requires c).After-mode_of) c.space_of.ensures c.clean.ensures (sizes (goal.at.break_lines-requires c).After-outer_sizes) (sizes_long a.table.now a.n) c.requires.breakable c.requires.room

pub returns : goal.returns
returns c = let a = c.args in
    broken_as (balance.break_lent a.counts.now a.work.now a.sums.now) (mode (goal.at.returns c).After-mode_of) c.space_of.ensures c.clean.ensures (sizes (goal.at.returns c).After-outer_sizes) c.break_lines.ensures
