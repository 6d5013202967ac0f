-- The items of the lines before this one are placed.
use Rattle.place_size.specs.Lists.{lists_of}
use Rattle.pass_walk_across.proofs.Placing.{Placing}
use Rattle.pass_walk_across.proofs.across_by_line.Given as goal

abbrev pub invariant-loop-j : goal.invariant-loop-j
invariant-loop-j l =
    Placing l.reversed l.counts l.line_sizes (lists_of l.items.cross) l.items.alignment.now l.items.auto_size.now l.initial.sizes l.initial.used_start l.initial.used_end l.initial.offsets l.sizes l.used_start l.used_end l.offsets l.from l.j
