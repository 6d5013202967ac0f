-- The cells from `lo` up to s are copied.
use Rattle.std.proofs.Common.{◌≡◌, length, get_or}
use Rattle.std.specs.Float.{nan}
use Rattle.balance_tables.proofs.TablesLaws.{Filled}
use Rattle.balance_rows.proofs.copy_row.Given as goal

abbrev pub invariant-loop-s : goal.invariant-loop-s
invariant-loop-s l = (length l.to ≡ length l.initial.to) × Filled l.to (λ k. get_or l.from k nan) l.lo l.s
