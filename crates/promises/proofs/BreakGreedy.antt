-- The promises of greedy breaking, filled. Assumes nothing.
use Rattle.break_greedy.proofs.Lines.{greedy-total, greedy-positive, greedy-min, greedy-max, greedy_lines, lines_greedy}
use Rattle.break_greedy.proofs.Unique.{one-greedy}
use Rattle.promises.specs.BreakGreedy.{Promised}

pub promised : Promised
promised = record {
  one-greedy = one-greedy;
  greedy-total = greedy-total;
  greedy-positive = greedy-positive;
  greedy-min = greedy-min;
  greedy-max = greedy-max;
  greedy_lines = greedy_lines;
  lines_greedy = lines_greedy;
}
