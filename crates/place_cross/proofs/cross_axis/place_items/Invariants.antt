-- The four lists are written from the front.
use Rattle.place_size.specs.Lists.{lists_of}
use Rattle.place_cross.specs.CrossAxis.{placed_at}
use Rattle.place_cross.specs.Cells.{SameCells}
use Rattle.place_cross.proofs.AcrossLaws.{Writing}
use Rattle.place_cross.proofs.cross_axis.place_items.Given as goal

abbrev pub invariant-loop-i : goal.invariant-loop-i
invariant-loop-i l =
    let p = placed_at l.fn.line l.fn.reversed (lists_of l.fn.items.cross) l.fn.items.alignment.now l.fn.items.auto_size.now in
    let old = l.fn.cells in
    record {
      written : Writing p old.sizes.now old.used_start.now old.used_end.now old.offsets.now l.cells.sizes.now l.cells.used_start.now l.cells.used_end.now l.cells.offsets.now l.i;
      same_cells : SameCells old l.cells;
    }
