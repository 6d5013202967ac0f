-- The code's tests are the definition's.
use borrow.Author.Tests.{lt-ltb, le-ltb}
use Rattle.keywords.specs.Alignment.{content_of}
use Rattle.keywords.proofs.content_of.Goals as goal

pub returns-then-code-lt5 : goal.returns-then-code-lt5
unfolding content_of
returns-then-code-lt5 c = rw (lt-ltb _ _ c.if-code-lt5.true, c.position_of.ensures)

pub returns-then-code-lt10 : goal.returns-then-code-lt10
unfolding content_of
returns-then-code-lt10 c =
    rw (le-ltb _ _ c.if-code-lt5.false, lt-ltb _ _ c.if-code-lt10.true, c.position_of-then-code-lt10.ensures)

pub returns : goal.returns
unfolding content_of
returns c = rw (le-ltb _ _ c.if-code-lt5.false, le-ltb _ _ c.if-code-lt10.false, c.distribution_of.ensures)
