-- The lists of the frame are lent from zeros, and stored in the two lists by line. Assumes nothing.
use mathlib.Core.Path.{sym, ◌∙◌}
use native.Mathlib.Nat.{le_trans, le_of_eq}
use native.Mathlib.Omega.{arith}
use lib.ListN.{length}
use Rattle.pass_cross.proofs.CrossLaws.{frame, front_long, inside_of, written_room, written_long, lines_placed}
use Rattle.pass_cross.proofs.lines_along.Goals as goal

pub slice_bounds-align_sized-end : goal.slice_bounds-align_sized-end
slice_bounds-align_sized-end c = sym (front_long c.args.items.count frame c.requires.0.listed.few)

pub slice_bounds-align_sized-end-2 : goal.slice_bounds-align_sized-end-2
slice_bounds-align_sized-end-2 c = sym (front_long c.args.items.count frame c.requires.0.listed.few)

pub align_sized-inner-requires : goal.align_sized-inner-requires
align_sized-inner-requires c = let w = le_of_eq (sym (front_long c.args.items.count frame c.requires.0.listed.few)) in (c.requires.0, w, w)

pub slice_bounds-sizes-end-2 : goal.slice_bounds-sizes-end-2
slice_bounds-sizes-end-2 c = written_room c.args.items.count c.align_sized-inner.new.sizes c.requires.0.listed.few c.align_sized-inner.auto.sizes

pub slice_bounds-store_column-end : goal.slice_bounds-store_column-end
slice_bounds-store_column-end c = sym (written_long c.args.items.count c.align_sized-inner.new.sizes c.requires.0.listed.few c.align_sized-inner.auto.sizes)

pub store_column-requires : goal.store_column-requires
store_column-requires c = (inside_of c.args.items.count 0 c.args.lines.now 2 c.requires.0.listed.few (omega arith) (omega arith) c.requires.1, written_long c.args.items.count c.align_sized-inner.new.sizes c.requires.0.listed.few c.align_sized-inner.auto.sizes)

pub slice_bounds-offsets-end-2 : goal.slice_bounds-offsets-end-2
slice_bounds-offsets-end-2 c = written_room c.args.items.count c.align_sized-inner.new.offsets c.requires.0.listed.few c.align_sized-inner.auto.offsets

pub slice_bounds-store_column-end-2 : goal.slice_bounds-store_column-end-2
slice_bounds-store_column-end-2 c = sym (written_long c.args.items.count c.align_sized-inner.new.offsets c.requires.0.listed.few c.align_sized-inner.auto.offsets)

pub store_column-requires-2 : goal.store_column-requires-2
store_column-requires-2 c = let l = c.store_column in
    (inside_of c.args.items.count 1 l.new.cells 2 c.requires.0.listed.few (omega arith) (omega arith) (le_trans {m = length c.args.lines.now} c.requires.1 (le_of_eq (sym l.auto.cells))), written_long c.args.items.count c.align_sized-inner.new.offsets c.requires.0.listed.few c.align_sized-inner.auto.offsets)

pub shape_of-lines : goal.shape_of-lines
shape_of-lines c = c.store_column-2.auto.cells ∙ c.store_column.auto.cells

pub returns : goal.returns
returns c = let a = c.args in
    let f = c.align_sized-inner in
    lines_placed a.c a.items.count a.items.numbers.now a.items.codes.now a.counts.now c.requires.0.listed.few f.auto.sizes f.auto.offsets f.ensures c.store_column.ensures c.store_column-2.ensures
