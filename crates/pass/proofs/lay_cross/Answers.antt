-- The lines, and then the items in the lines' sizes. Assumes nothing.
use mathlib.Core.Path.{sym, subst}
use mathlib.Core.List.{List}
use Prim.Native.Nat.{◌*◌}
use native.Mathlib.Nat.{le_trans, le_of_eq}
use native.Mathlib.Omega.{arith}
use lib.ListN.{length}
use lib.Ieee.{Float}
use Rattle.pass_cross.specs.CrossStage.{ItemsAcross}
use Rattle.pass.proofs.LaidLaws.{first-column, first_long}
use Rattle.pass.proofs.lay_cross.Goals as goal

pub slice_bounds-items_across-end-2 : goal.slice_bounds-items_across-end-2
slice_bounds-items_across-end-2 c = sym (first_long c.args.items.count (2 * c.args.items.count) c.lines_along-inner.new.lines (omega arith) (le_trans {m = length c.args.lines.now} c.requires.lines_room (le_of_eq (sym c.lines_along-inner.auto.lines))))

pub items_across-requires : goal.items_across-requires
items_across-requires c = (c.requires.ready, le_of_eq (sym (first_long c.args.items.count (2 * c.args.items.count) c.lines_along-inner.new.lines (omega arith) (le_trans {m = length c.args.lines.now} c.requires.lines_room (le_of_eq (sym c.lines_along-inner.auto.lines))))), c.requires.placed_room)

pub returns : goal.returns
returns c = let a = c.args in
    let f = c.lines_along-inner in
    let g = c.items_across in
    record {
      along = f.ensures;
      across = subst (λ (y : List Float). ItemsAcross a.c a.items.count a.items.numbers.now a.items.codes.now a.counts.now y a.placed.now g.new.placed) (first-column a.items.count f.new.lines) g.ensures;
    }
