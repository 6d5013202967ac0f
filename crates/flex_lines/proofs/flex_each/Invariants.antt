-- Line after line: those before this one are flexed. Assumes nothing.
use Rattle.flex_table.specs.Table.{item_in}
use Rattle.flex_lines.proofs.Going.{Going}
use Rattle.flex_lines.proofs.flex_each.Given as goal

abbrev pub invariant-loop-line : goal.invariant-loop-line
invariant-loop-line l =
    Going l.inner l.gap (item_in l.items) l.counts l.initial.targets l.initial.free l.initial.rounds l.targets l.free
    l.rounds l.sum l.start l.line
