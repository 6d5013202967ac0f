-- `grid::lowest_digit` meets its contract: the law of proofs/Lowest. Assumes nothing.
use Prim.Native.Nat.{◌+◌, ◌-◌}
use native.Mathlib.Omega.{arith}
use Rattle.grid.proofs.Lowest.{lowest_and}
use Rattle.grid.proofs.lowest_digit.Goals as goal

pub returns : goal.returns
returns c = let q = c.args.q in lowest_and 32 q (4294967295 - q + 1) c.requires (omega arith) (omega (arith, c.well_formed.0.1))
