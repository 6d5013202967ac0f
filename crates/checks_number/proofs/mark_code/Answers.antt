-- `checks_number::mark_code` meets its contract: a code fails check 5 alone. Assumes nothing.
use borrow.Author.Tests.{lt-ltb, le-ltb}
use Rattle.checks.specs.Domain.{not_finite, off_grid, out_of_range}
use Rattle.checks.specs.Marks.{mark}
use Rattle.checks_number.proofs.mark_code.Goals as goal

pub returns-then-most-c : goal.returns-then-most-c
unfolding mark not_finite off_grid out_of_range
returns-then-most-c c = simp (lt-ltb _ _ c.if-most-c.true)

pub returns-else-most-c : goal.returns-else-most-c
unfolding mark not_finite off_grid out_of_range
returns-else-most-c c = simp (le-ltb _ _ c.if-most-c.false)
