-- What a turn of the program's loop leaves: the reader, fed a burst of so many bytes. Only contracts
-- of parts cite it. Assumes nothing.
use Rattle.std.specs.Prelude.{◌≡◌, List, ℕ, ◌≤◌, length, Float}
use Rattle.capture_feed.specs.Machine.{with_sizes, fed}
use Rattle.capture_feed.specs.declared.Reader.{Reader}

pub record Turned (before : Reader) (room : List Float) (bytes : ℕ) (reader : Reader)
    (after : List Float) : Type 0 where
  pub burst : List ℕ
  pub bytes_are : bytes ≡ length burst
  pub few : length burst ≤ 65536
  pub fed_is : with_sizes reader after ≡ fed (with_sizes before room) burst
