-- The lists of the frame are lent from zeros, and stored in the last four lists by item. Assumes nothing.
use mathlib.Core.Path.{sym}
use native.Mathlib.Nat.{le_of_eq}
use native.Mathlib.Omega.{arith}
use Rattle.pass_cross.proofs.CrossLaws.{frame, front_long, inside_of, written_room, written_long, items_across}
use Rattle.pass_cross.proofs.items_across.Goals as goal

pub slice_bounds-across_lines-end : goal.slice_bounds-across_lines-end
slice_bounds-across_lines-end c = sym (front_long c.args.items.count frame c.requires.0.listed.few)

pub slice_bounds-across_lines-end-2 : goal.slice_bounds-across_lines-end-2
slice_bounds-across_lines-end-2 c = sym (front_long c.args.items.count frame c.requires.0.listed.few)

pub slice_bounds-across_lines-end-3 : goal.slice_bounds-across_lines-end-3
slice_bounds-across_lines-end-3 c = sym (front_long c.args.items.count frame c.requires.0.listed.few)

pub slice_bounds-across_lines-end-4 : goal.slice_bounds-across_lines-end-4
slice_bounds-across_lines-end-4 c = sym (front_long c.args.items.count frame c.requires.0.listed.few)

pub across_lines-requires : goal.across_lines-requires
across_lines-requires c = let w = le_of_eq (sym (front_long c.args.items.count frame c.requires.0.listed.few)) in (c.requires.0, c.requires.1, w, w, w, w)

pub slice_bounds-sizes-end-2 : goal.slice_bounds-sizes-end-2
slice_bounds-sizes-end-2 c = written_room c.args.items.count c.across_lines.new.sizes c.requires.0.listed.few c.across_lines.auto.sizes

pub slice_bounds-store_four-end : goal.slice_bounds-store_four-end
slice_bounds-store_four-end c = sym (written_long c.args.items.count c.across_lines.new.sizes c.requires.0.listed.few c.across_lines.auto.sizes)

pub slice_bounds-offsets-end-2 : goal.slice_bounds-offsets-end-2
slice_bounds-offsets-end-2 c = written_room c.args.items.count c.across_lines.new.offsets c.requires.0.listed.few c.across_lines.auto.offsets

pub slice_bounds-store_four-end-2 : goal.slice_bounds-store_four-end-2
slice_bounds-store_four-end-2 c = sym (written_long c.args.items.count c.across_lines.new.offsets c.requires.0.listed.few c.across_lines.auto.offsets)

pub slice_bounds-starts-end-2 : goal.slice_bounds-starts-end-2
slice_bounds-starts-end-2 c = written_room c.args.items.count c.across_lines.new.starts c.requires.0.listed.few c.across_lines.auto.starts

pub slice_bounds-store_four-end-3 : goal.slice_bounds-store_four-end-3
slice_bounds-store_four-end-3 c = sym (written_long c.args.items.count c.across_lines.new.starts c.requires.0.listed.few c.across_lines.auto.starts)

pub slice_bounds-ends-end-2 : goal.slice_bounds-ends-end-2
slice_bounds-ends-end-2 c = written_room c.args.items.count c.across_lines.new.ends c.requires.0.listed.few c.across_lines.auto.ends

pub slice_bounds-store_four-end-4 : goal.slice_bounds-store_four-end-4
slice_bounds-store_four-end-4 c = sym (written_long c.args.items.count c.across_lines.new.ends c.requires.0.listed.few c.across_lines.auto.ends)

pub store_four-requires : goal.store_four-requires
store_four-requires c = (inside_of c.args.items.count 7 c.args.placed.now 8 c.requires.0.listed.few (omega arith) (omega arith) c.requires.2, written_long c.args.items.count c.across_lines.new.sizes c.requires.0.listed.few c.across_lines.auto.sizes, written_long c.args.items.count c.across_lines.new.offsets c.requires.0.listed.few c.across_lines.auto.offsets, written_long c.args.items.count c.across_lines.new.starts c.requires.0.listed.few c.across_lines.auto.starts, written_long c.args.items.count c.across_lines.new.ends c.requires.0.listed.few c.across_lines.auto.ends)

pub returns : goal.returns
returns c = let a = c.args in
    let f = c.across_lines in
    items_across a.c a.items.count a.items.numbers.now a.items.codes.now a.counts.now c.requires.0.listed.few f.auto.sizes f.auto.starts f.auto.ends f.auto.offsets f.ensures c.store_four.ensures
