-- The counts, one after another: those so far are positive or not, and have a sum. Assumes nothing.
use Rattle.flex_lines.proofs.Counting.{Counting}
use Rattle.flex_lines.proofs.is_division.Given as goal

abbrev pub invariant-loop-count : goal.invariant-loop-count
invariant-loop-count l = Counting l.counts l.positive l.sum l.count-index
