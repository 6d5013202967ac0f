-- What the code of a line's main axis may count on: its auto margins are few. Assumes nothing.
use mathlib.Core.Path.{◌≡◌}
use mathlib.Core.List.{List}
use Prim.Native.Nat.{ℕ, ◌≤◌}
use native.Mathlib.Omega.{arith}
use lib.ListN.{length}
use Rattle.place_align.specs.Axis.{autos}
use Rattle.place_align.proofs.Totals.{autos-within}

-- no side of a line has more than 1,024 auto margins
pub autos_few : (auto : List ℕ) {k : ℕ} → length auto ≤ 1024 → k ≡ autos auto (length auto) → k ≤ 1024
autos_few auto h e = omega (arith, autos-within auto (length auto))
