-- Line after line: those before this one are flexed. Assumes nothing.
use mathlib.Core.Path.{refl, sym, ◌∙◌, subst}
use Prim.Native.Nat.{◌+◌, ◌-◌, ◌<◌}
use native.Mathlib.Omega.{arith}
use lib.ListN.{length, get_or, set}
use borrow.Rule.Slice.PartMut.{mid_of, put_mid, mid_len}
use Rattle.flex_table.specs.Table.{item_in}
use Rattle.flex.specs.Flex.{Flexed}
use Rattle.flex.proofs.Units.{free_bits}
use Rattle.flex_lines.proofs.Going.{Going, Turn, going_none, going_next, turn_of}
use Rattle.flex_lines.proofs.flex_each.Goals as goal
use Rattle.flex_lines.proofs.flex_each.Goals.{In-loop-line}

turn : (c : In-loop-line) → c.loop-line.line < length c.args.counts.now → let a = c.args in let l = c.loop-line in Turn a.inner a.gap a.items.now l.start (get_or a.counts.now l.line 0) l.line l.sum l.targets l.free l.rounds
turn c h = turn_of c.requires c.loop-line.invariant h

pub loop-line-init : goal.loop-line-init
loop-line-init c = going_none

pub overflow_add-end : goal.overflow_add-end
overflow_add-end c = omega (arith, (turn (goal.at.overflow_add-end c).In-loop-line c.loop-line-test.true).few)

pub offset_bounds-items-start : goal.offset_bounds-items-start
offset_bounds-items-start c = omega (arith, (turn (goal.at.offset_bounds-items-start c).In-loop-line c.loop-line-test.true).few)

pub slice_bounds-flex_items-end : goal.slice_bounds-flex_items-end
slice_bounds-flex_items-end c = (turn (goal.at.slice_bounds-flex_items-end c).In-loop-line c.loop-line-test.true).inside

pub flex_items-flexed-requires : goal.flex_items-flexed-requires
flex_items-flexed-requires c =
    let l = c.loop-line in
    let t = turn (goal.at.flex_items-flexed-requires c).In-loop-line c.loop-line-test.true in
    let e = l.start + get_or c.args.counts.now l.line 0 in (
      omega (arith, t.part_long, t.few),
      omega (arith, t.part_long, mid_len l.start e l.targets t.room),
      t.accepted,
    )

pub bounds-free-line : goal.bounds-free-line
bounds-free-line c = (turn (goal.at.bounds-free-line c).In-loop-line c.loop-line-test.true).free_room

pub bounds-rounds-line : goal.bounds-rounds-line
bounds-rounds-line c = (turn (goal.at.bounds-rounds-line c).In-loop-line c.loop-line-test.true).rounds_room

pub overflow_add-sum : goal.overflow_add-sum
overflow_add-sum c =
    let t = turn (goal.at.overflow_add-sum c).In-loop-line c.loop-line-test.true in
    omega (arith, t.few, t.less, c.flex_items-flexed.ensures.few, t.part_long)

pub loop-line-preserved : goal.loop-line-preserved
loop-line-preserved c =
    let a = c.args in
    let l = c.loop-line in
    let t = turn (goal.at.loop-line-preserved c).In-loop-line c.loop-line-test.true in
    let f = c.flex_items-flexed in
    let e = l.start + get_or a.counts.now l.line 0 in
    subst (λ x. Going a.inner a.gap (item_in a.items.now) a.counts.now a.targets.now a.free.now a.rounds.now
    (put_mid l.start (e - l.start) l.targets f.new.targets) (set l.free l.line x) (set l.rounds l.line f.result.rounds)
    (l.sum + f.result.rounds) e (l.line + 1))
    (sym (free_bits a.inner a.gap _ t.accepted f.result.free.0 f.ensures.space))
    (going_next l.invariant c.loop-line-test.true refl t.room t.free_room t.rounds_room
    (f.auto.targets ∙ mid_len l.start e l.targets t.room)
    (subst (λ items. Flexed a.inner a.gap items f.result.free.0 f.result.rounds
    (mid_of l.start (e - l.start) l.targets) f.new.targets) t.part_is f.ensures))
