-- The lines before this one are spaced. Assumes nothing.
use Rattle.std.proofs.Common.{◌+◌, get_or, subst, arith}
use borrow.Rule.Slice.PartMut.{mid_of}
use Prim.Native.Nat.{◌-◌}
use Rattle.place_main.specs.MainAxis.{LineLists, Spaced}
use Rattle.place_main.specs.Lists.{lists_of}
use Rattle.pass_walk.proofs.Spacing.{Turn, spacing_none, turn_of, spacing_next}
use Rattle.pass_walk.proofs.main_by_line.Goals as goal
use Rattle.pass_walk.proofs.main_by_line.Goals.{In-loop-count}

-- the line lies within every list
turn : (c : In-loop-count) → let l = c.loop-count in Turn (lists_of c.args.items) l.offsets l.used_start l.used_end l.from (l.from + get_or c.args.counts.now l.count-index 0)
turn c = let a = c.args in turn_of a.inner a.gap a.justify a.reversed a.counts.now (lists_of a.items) a.offsets.now a.used_start.now a.used_end.now c.requires c.loop-count.invariant c.loop-count-test.true

pub loop-count-init : goal.loop-count-init
loop-count-init c = let a = c.args in spacing_none a.inner a.gap a.justify a.reversed a.counts.now (lists_of a.items) a.offsets.now a.used_start.now a.used_end.now

pub overflow_add-to : goal.overflow_add-to
overflow_add-to c = omega (arith, (turn (goal.at.overflow_add-to c).In-loop-count).few)

pub part-requires-clause-in_lists : goal.part-requires-clause-in_lists
part-requires-clause-in_lists c = let t = turn (goal.at.part-requires-clause-in_lists c).In-loop-count in (t.forward, t.counted)

pub offset_bounds-offsets-from : goal.offset_bounds-offsets-from
offset_bounds-offsets-from c = let t = turn (goal.at.offset_bounds-offsets-from c).In-loop-count in omega (arith, t.forward, t.few)

pub slice_bounds-distribute_remaining_free_space-end : goal.slice_bounds-distribute_remaining_free_space-end
slice_bounds-distribute_remaining_free_space-end c = (turn (goal.at.slice_bounds-distribute_remaining_free_space-end c).In-loop-count).in_offsets

pub offset_bounds-used_start-from : goal.offset_bounds-used_start-from
offset_bounds-used_start-from c = let t = turn (goal.at.offset_bounds-used_start-from c).In-loop-count in omega (arith, t.forward, t.few)

pub slice_bounds-distribute_remaining_free_space-end-in-loop-count : goal.slice_bounds-distribute_remaining_free_space-end-in-loop-count
slice_bounds-distribute_remaining_free_space-end-in-loop-count c = (turn (goal.at.slice_bounds-distribute_remaining_free_space-end-in-loop-count c).In-loop-count).in_starts

pub offset_bounds-used_end-from : goal.offset_bounds-used_end-from
offset_bounds-used_end-from c = let t = turn (goal.at.offset_bounds-used_end-from c).In-loop-count in omega (arith, t.forward, t.few)

pub slice_bounds-distribute_remaining_free_space-end-in-loop-count-2 : goal.slice_bounds-distribute_remaining_free_space-end-in-loop-count-2
slice_bounds-distribute_remaining_free_space-end-in-loop-count-2 c = (turn (goal.at.slice_bounds-distribute_remaining_free_space-end-in-loop-count-2 c).In-loop-count).in_ends

pub loop-count-preserved : goal.loop-count-preserved
loop-count-preserved c = let a = c.args in
    let l = c.loop-count in
    let f = c.distribute_remaining_free_space in
    let to = l.from + get_or a.counts.now l.count-index 0 in
    spacing_next a.inner a.gap a.justify a.reversed a.counts.now (lists_of a.items) a.offsets.now a.used_start.now a.used_end.now c.requires l.invariant c.loop-count-test.true
    f.new.offsets f.new.used_start f.new.used_end f.auto.offsets f.auto.used_start f.auto.used_end
    (subst (λ (y : LineLists). Spaced a.inner a.gap a.justify a.reversed y (mid_of l.from (to - l.from) l.offsets) (mid_of l.from (to - l.from) l.used_start) (mid_of l.from (to - l.from) l.used_end) f.new.offsets f.new.used_start f.new.used_end) c.part.ensures.is_part f.ensures)
