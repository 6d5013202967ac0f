-- What a turn leaves for the turns to come: a reader with room for all but the bytes that one read can give. Assumes nothing.
use Rattle.std.proofs.Common.{List, ℕ, ◌+◌, length, arith}
use Rattle.std.specs.Prelude.{Float}
use Rattle.capture_feed.specs.Machine.{with_sizes, ReaderReady}
use Rattle.capture_feed.specs.declared.Reader.{Reader}
use Rattle.capture_feed.proofs.Sound.{feed_ready, ready_less}
use Rattle.capture_program.specs.Turned.{Turned}

module _ (before : Reader) (room : List Float) (bytes : ℕ) (reader : Reader) (after : List Float) (t : Turned before room bytes reader after) where
  pub turn_ready : (n : ℕ) → ReaderReady before (65536 + n) → ReaderReady reader n
  turn_ready n h =
      feed_ready (with_sizes before room) t.burst n t.fed_is
      (ready_less (length t.burst + n) (65536 + n) (omega (arith, t.few)) h)
