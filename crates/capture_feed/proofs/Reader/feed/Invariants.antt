-- `capture_feed::Reader::feed` meets its contract: each turn takes the reader one byte on. Assumes nothing.
use Rattle.capture_feed.specs.Machine.{with_sizes, fed}
use Rattle.capture_feed.proofs.Turns.{Turn}
use Rattle.capture_feed.proofs.Reader.feed.Given as goal

abbrev pub invariant-loop-byte : goal.invariant-loop-byte
invariant-loop-byte l = Turn l.burst (fed (with_sizes l.initial.self l.initial.sizes) l.burst) l.sizes l.self l.byte-index
