-- The rows so far are kept, and the last one stands in `prev` (ProgramLaws.antt).
use Rattle.balance_rows.proofs.ProgramLaws.{RowsInv}
use Rattle.balance_rows.proofs.rows.Given as goal

abbrev pub invariant-loop-lines : goal.invariant-loop-lines
invariant-loop-lines l =
    RowsInv l.sums.up_to.now l.sums.gap.0 l.tables.fit.now l.tables.greedy.now l.tables.reach.now l.initial.prev l.line_count l.prev l.opts l.lines l.row l.seen
