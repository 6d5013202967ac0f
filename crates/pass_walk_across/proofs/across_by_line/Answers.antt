-- The items of the lines before this one are placed. Assumes nothing.
use Rattle.std.proofs.Common.{◌+◌, get_or, refl, arith}
use Rattle.place_size.specs.Lists.{lists_of}
use Rattle.pass_walk_across.proofs.Placing.{Turn, same_input, placing_none, turn_of, placing_next}
use Rattle.pass_walk_across.proofs.across_by_line.Goals as goal
use Rattle.pass_walk_across.proofs.across_by_line.Goals.{In-loop-j}

-- the line lies within every list
turn : (c : In-loop-j) → let l = c.loop-j in Turn (lists_of c.args.items.cross) l.sizes l.used_start l.used_end l.offsets l.from (l.from + get_or c.args.counts.now l.j 0)
turn c = let a = c.args in
    turn_of a.reversed a.counts.now a.line_sizes.now (lists_of a.items.cross) a.items.alignment.now a.items.auto_size.now a.sizes.now a.used_start.now a.used_end.now a.offsets.now c.requires c.loop-j.invariant c.loop-j-test.true

pub loop-j-init : goal.loop-j-init
loop-j-init c = let a = c.args in
    placing_none a.reversed a.counts.now a.line_sizes.now (lists_of a.items.cross) a.items.alignment.now a.items.auto_size.now a.sizes.now a.used_start.now a.used_end.now a.offsets.now

pub overflow_add-to : goal.overflow_add-to
overflow_add-to c = omega (arith, (turn (goal.at.overflow_add-to c).In-loop-j).inside.few)

pub part-requires-clause-in_lists : goal.part-requires-clause-in_lists
part-requires-clause-in_lists c = let t = turn (goal.at.part-requires-clause-in_lists c).In-loop-j in (t.inside.forward, t.inside.counted)

pub offset_bounds-sizes-from : goal.offset_bounds-sizes-from
offset_bounds-sizes-from c = let t = turn (goal.at.offset_bounds-sizes-from c).In-loop-j in omega (arith, t.inside.forward, t.inside.few)

pub slice_bounds-place_line-end : goal.slice_bounds-place_line-end
slice_bounds-place_line-end c = (turn (goal.at.slice_bounds-place_line-end c).In-loop-j).in_sizes

pub offset_bounds-used_start-from : goal.offset_bounds-used_start-from
offset_bounds-used_start-from c = let t = turn (goal.at.offset_bounds-used_start-from c).In-loop-j in omega (arith, t.inside.forward, t.inside.few)

pub slice_bounds-place_line-end-in-loop-j : goal.slice_bounds-place_line-end-in-loop-j
slice_bounds-place_line-end-in-loop-j c = (turn (goal.at.slice_bounds-place_line-end-in-loop-j c).In-loop-j).in_starts

pub offset_bounds-used_end-from : goal.offset_bounds-used_end-from
offset_bounds-used_end-from c = let t = turn (goal.at.offset_bounds-used_end-from c).In-loop-j in omega (arith, t.inside.forward, t.inside.few)

pub slice_bounds-place_line-end-in-loop-j-2 : goal.slice_bounds-place_line-end-in-loop-j-2
slice_bounds-place_line-end-in-loop-j-2 c = (turn (goal.at.slice_bounds-place_line-end-in-loop-j-2 c).In-loop-j).in_ends

pub offset_bounds-offsets-from : goal.offset_bounds-offsets-from
offset_bounds-offsets-from c = let t = turn (goal.at.offset_bounds-offsets-from c).In-loop-j in omega (arith, t.inside.forward, t.inside.few)

pub slice_bounds-place_line-end-in-loop-j-3 : goal.slice_bounds-place_line-end-in-loop-j-3
slice_bounds-place_line-end-in-loop-j-3 c = (turn (goal.at.slice_bounds-place_line-end-in-loop-j-3 c).In-loop-j).in_offsets

pub loop-j-preserved : goal.loop-j-preserved
loop-j-preserved c = let a = c.args in
    let l = c.loop-j in
    let f = c.place_line in
    let p = c.part.ensures in
    placing_next a.reversed a.counts.now a.line_sizes.now (lists_of a.items.cross) a.items.alignment.now a.items.auto_size.now a.sizes.now a.used_start.now a.used_end.now a.offsets.now c.requires l.invariant c.loop-j-test.true
    f.new.sizes f.new.used_start f.new.used_end f.new.offsets f.auto.sizes f.auto.used_start f.auto.used_end f.auto.offsets refl (same_input refl p.is_part p.alignment p.auto_size f.ensures)
