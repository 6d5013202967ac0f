-- All lines, and then the cells past the last one. Assumes nothing.
use native.Mathlib.Omega.{arith}
use Rattle.flex_lines.proofs.Going.{lines_within, lines_flexed}
use Rattle.flex_lines.proofs.flex_all.Goals as goal

pub clear-requires : goal.clear-requires
clear-requires c =
    (omega (arith, lines_within c.requires), omega (arith, c.flex_each-sum.ensures.free_past.long, c.requires.divided.free_room))

pub clear-requires-2 : goal.clear-requires-2
clear-requires-2 c =
    (omega (arith, lines_within c.requires), omega (arith, c.flex_each-sum.ensures.rounds_past.long, c.requires.divided.rounds_room))

pub returns : goal.returns
returns c =
    let d = c.requires.divided in
    lines_flexed d.whole (lines_within c.requires) d.free_room d.rounds_room c.flex_each-sum.ensures c.clear.ensures
    c.clear-2.ensures
