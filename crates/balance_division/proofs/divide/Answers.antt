-- `balance_division::divide` meets its contract: what the call has accepted is what the run is given, and the run's lists are kept as long as they were.
use Rattle.std.proofs.Common.{length, sym, arith}
use borrow.Author.Tests.{eqb-true, eqb-false}
use Rattle.balance_division.proofs.Accepted.{not_nan, sizes_not_nan, run_given, divided, none_divided}
use Rattle.balance_division.proofs.divide.Goals as goal

pub returns-then-is_empty-clause-balanced_counts : goal.returns-then-is_empty-clause-balanced_counts
returns-then-is_empty-clause-balanced_counts c =
    let b = c.args.breaking in
    none_divided b.limit b.gap b.minimum b.sizes.now c.args.counts.now (eqb-true (length b.sizes.now) 0 (sym c.if-is_empty.ensures)) c.requires.room.0

pub to_size-gap-requires : goal.to_size-gap-requires
to_size-gap-requires c = not_nan _ c.requires.breakable.spacing

pub counts_of_sizes-lines-requires-clause-given : goal.counts_of_sizes-lines-requires-clause-given
counts_of_sizes-lines-requires-clause-given c =
    let b = c.args.breaking in
    let given = c.requires.breakable in (
      run_given given c.to_size-gap.ensures c.most-most.ensures,
      omega (arith, eqb-false (length b.sizes.now) 0 (sym c.if-is_empty.ensures)),
      given.few,
      sizes_not_nan given,
    )

pub returns-clause-balanced_counts : goal.returns-clause-balanced_counts
returns-clause-balanced_counts c = divided c.requires.breakable c.to_size-gap.ensures c.most-most.ensures c.counts_of_sizes-lines.ensures
