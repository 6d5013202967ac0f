-- Every cell before `start` is the square of the line from it to the last item.
use Rattle.std.specs.Float.{binary64}
use Rattle.std.specs.Float.Ieee.{mul}
use Rattle.balance_sums.specs.Sums.{size_f}
use Rattle.balance_tables.proofs.TablesLaws.{Filled}
use Rattle.balance_rows.proofs.first_row.Given as goal

abbrev pub invariant-loop-start : goal.invariant-loop-start
invariant-loop-start l =
    Filled l.prev (λ s. mul binary64 (size_f l.sums.up_to.now l.sums.gap.0 s l.last) (size_f l.sums.up_to.now l.sums.gap.0 s l.last)) 0 l.start
