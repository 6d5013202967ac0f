-- The lines are those that the counts say, and each is flexed and spaced. Assumes nothing.
use mathlib.Core.Path.{sym}
use Prim.Native.Nat.{◌*◌}
use native.Mathlib.Nat.{le_trans, le_of_eq}
use native.Mathlib.Omega.{arith}
use lib.ListN.{length}
use Rattle.pass_break.proofs.BreakLaws.{lines_long, lines_few}
use Rattle.pass.proofs.LaidLaws.{main_ready}
use Rattle.pass.proofs.lay_main.Goals as goal

pub break_items-count-requires : goal.break_items-count-requires
break_items-count-requires c = c.requires.breaks

pub slice_bounds-place_main_axis-end : goal.slice_bounds-place_main_axis-end
slice_bounds-place_main_axis-end c = le_trans {m = c.args.items.count} (lines_few c.args.c c.args.items.count c.args.table.now c.break_items-count.ensures) (le_trans {m = length c.args.counts.now} c.requires.counts_room (le_of_eq (sym c.break_items-count.auto.counts)))

pub slice_bounds-place_main_axis-end-2 : goal.slice_bounds-place_main_axis-end-2
slice_bounds-place_main_axis-end-2 c = let a = c.args in sym (lines_long a.c a.items.count a.table.now c.break_items-count.ensures)

pub place_main_axis-rounds-requires : goal.place_main_axis-rounds-requires
place_main_axis-rounds-requires c = (main_ready c.requires c.break_items-count.ensures, le_trans {m = 8 * c.args.items.count} (omega arith) c.requires.placed_room)

pub returns : goal.returns
returns c = record { broken = c.break_items-count.ensures; main = c.place_main_axis-rounds.ensures }
