-- `balance_rows::one_row` meets its contract: the range is filled and copied (`one_row` of ProgramLaws.antt).
use Rattle.std.proofs.Common.{arith}
use Rattle.balance_rows.proofs.ProgramLaws.{one_row}
use Rattle.balance_rows.proofs.one_row.Goals as goal

pub returns : goal.returns
returns c = one_row (omega (arith, c.min-start_hi.ensures)) (rw c.saturating_sub-end_lo.ensures at c.fill_row.ensures) c.copy_row.ensures
