-- Both axes, put together. Assumes nothing.
use mathlib.Core.Path.{sym, ◌∙◌}
use native.Mathlib.Nat.{le_trans, le_of_eq}
use native.Mathlib.Omega.{arith}
use lib.ListN.{length}
use Rattle.pass_break.proofs.BreakLaws.{lines_long, lines_few}
use Rattle.pass.proofs.LaidLaws.{items_in_lem, cross_asked, laid_of}
use Rattle.pass.proofs.lay_out.Goals as goal

pub lay_main-main-requires : goal.lay_main-main-requires
lay_main-main-requires c = c.requires.main

pub slice_bounds-lay_cross-end : goal.slice_bounds-lay_cross-end
slice_bounds-lay_cross-end c = le_trans {m = c.args.items.count} (lines_few c.args.c c.args.items.count c.args.table.now c.lay_main-main.ensures.broken) (le_trans {m = length c.args.counts.now} c.requires.main.counts_room (le_of_eq (sym c.lay_main-main.auto.counts)))

pub slice_bounds-lay_cross-end-2 : goal.slice_bounds-lay_cross-end-2
slice_bounds-lay_cross-end-2 c = let a = c.args in sym (lines_long a.c a.items.count a.table.now c.lay_main-main.ensures.broken)

pub lay_cross-inner_cross-requires : goal.lay_cross-inner_cross-requires
lay_cross-inner_cross-requires c = cross_asked c.lay_main-main.ensures c.requires.main c.requires.lines_room

pub overflow_cast-result : goal.overflow_cast-result
overflow_cast-result c = omega (arith, lines_few c.args.c c.args.items.count c.args.table.now c.lay_main-main.ensures.broken, c.requires.main.listed.few)

pub shape_of-placed : goal.shape_of-placed
shape_of-placed c = c.lay_cross-inner_cross.auto.placed ∙ c.lay_main-main.auto.placed

pub returns : goal.returns
returns c = laid_of c.lay_main-main.ensures (items_in_lem c.args.table.now c.requires.main.listed c.requires.main.held) c.lay_cross-inner_cross.ensures
