-- The lines before this one have their sizes. Assumes nothing.
use Rattle.std.proofs.Common.{◌+◌, get_or, ap, ◌∙◌, arith}
use Rattle.place_size.specs.CrossSize.{cross_line_size}
use Rattle.place_size.specs.Lists.{lists_of}
use Rattle.pass_walk.proofs.Sizing.{Inside, sizing_none, sizing_inside, sizing_next}
use Rattle.pass_walk.proofs.cross_sizes.Goals as goal
use Rattle.pass_walk.proofs.cross_sizes.Goals.{In-loop-j}

-- the line lies within the lists
inside : (c : In-loop-j) → Inside (lists_of c.args.items) c.loop-j.from (c.loop-j.from + get_or c.args.counts.now c.loop-j.j 0)
inside c = let a = c.args in sizing_inside a.c a.counts.now (lists_of a.items) a.sizes.now c.requires c.loop-j.invariant c.loop-j-test.true

pub loop-j-init : goal.loop-j-init
loop-j-init c = let a = c.args in sizing_none a.c a.counts.now (lists_of a.items) a.sizes.now

pub overflow_add-to : goal.overflow_add-to
overflow_add-to c = omega (arith, (inside (goal.at.overflow_add-to c).In-loop-j).few)

pub part-requires-clause-in_lists : goal.part-requires-clause-in_lists
part-requires-clause-in_lists c = let t = inside (goal.at.part-requires-clause-in_lists c).In-loop-j in (t.forward, t.counted)

pub loop-j-preserved : goal.loop-j-preserved
loop-j-preserved c = let a = c.args in
    sizing_next a.c a.counts.now (lists_of a.items) a.sizes.now c.requires c.loop-j.invariant c.loop-j-test.true (c.calculate_cross_size.ensures ∙ ap (cross_line_size a.c) c.part.ensures.is_part)
