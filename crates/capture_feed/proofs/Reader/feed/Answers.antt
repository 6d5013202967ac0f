-- `capture_feed::Reader::feed` meets its contract: each turn takes the reader one byte on. Assumes nothing.
use Rattle.capture_feed.proofs.Turns.{begin, can_step, turn, done}
use Rattle.capture_feed.proofs.Reader.feed.Goals as goal

pub loop-byte-init : goal.loop-byte-init
loop-byte-init c = begin _ _ _ c.requires

pub step-requires : goal.step-requires
step-requires c = can_step c.loop-byte.invariant c.loop-byte-test.true

pub loop-byte-preserved : goal.loop-byte-preserved
loop-byte-preserved c = turn _ _ c.loop-byte.invariant c.loop-byte-test.true c.step.ensures

pub returns : goal.returns
returns c = done c.loop-byte.invariant c.loop-byte-test.false
