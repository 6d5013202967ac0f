-- The lines before this one are spaced.
use Rattle.place_main.specs.Lists.{lists_of}
use Rattle.pass_walk.proofs.Spacing.{Spacing}
use Rattle.pass_walk.proofs.main_by_line.Given as goal

abbrev pub invariant-loop-count : goal.invariant-loop-count
invariant-loop-count l = Spacing l.inner l.gap l.justify l.reversed l.counts (lists_of l.items) l.initial.offsets l.initial.used_start l.initial.used_end l.offsets l.used_start l.used_end l.from l.count-index
