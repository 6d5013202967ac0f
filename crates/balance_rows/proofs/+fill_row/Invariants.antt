-- The length of the range of starts falls at each call.
use Rattle.std.proofs.Common.{◌-◌}
use Rattle.balance_rows.proofs.+fill_row.Given as goal

abbrev pub decreases-fill_row : goal.decreases-fill_row
decreases-fill_row l = l.starts.end - l.starts.start
