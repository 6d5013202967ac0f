-- The lines before this one have their sizes.
use Rattle.place_size.specs.Lists.{lists_of}
use Rattle.pass_walk.proofs.Sizing.{Sizing}
use Rattle.pass_walk.proofs.cross_sizes.Given as goal

abbrev pub invariant-loop-j : goal.invariant-loop-j
invariant-loop-j l = Sizing l.c l.counts (lists_of l.items) l.initial.sizes l.sizes l.from l.j
