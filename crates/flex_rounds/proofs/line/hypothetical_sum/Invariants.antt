-- The sum of the hypothetical outer sizes: the sum so far is that of the items so far. Assumes nothing.
use Rattle.std.proofs.Common.{◌≡◌, take}
use Rattle.flex.specs.Flex.{total, outer, hypothetical}
use Rattle.flex_rounds.proofs.line.hypothetical_sum.Given as goal

abbrev pub invariant-loop-it : goal.invariant-loop-it
invariant-loop-it l = l.s ≡ total (λ it. outer it (hypothetical it)) (take l.it-index l.items)
