-- The promise of sums along an axis, filled. Assumes nothing.
use mathlib.Core.Path.{refl}
use lib.Ieee.{add, of_bits}
use Rattle.place_align.specs.Sums.{total_up_to}
use Rattle.promises.specs.PlaceAlign.{Promised}

pub promised : Promised
unfolding total_up_to add of_bits
promised = record { in_order = refl }
