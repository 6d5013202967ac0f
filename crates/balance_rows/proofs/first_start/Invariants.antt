-- Greedy counts fall, so the first start is found from behind.
use Rattle.std.proofs.Common.{◌≤◌, get_or}
use Rattle.balance_rows.proofs.first_start.Given as goal

abbrev pub invariant-loop-start : goal.invariant-loop-start
invariant-loop-start l = get_or l.greedy l.start 0 ≤ l.lines
