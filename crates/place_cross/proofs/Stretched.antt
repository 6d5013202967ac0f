-- P15 of document 01: lines of 20 and 30 with a gap of 10 in a size of 100 are stretched to 40 and 50. The definitions compute. Assumes nothing.
use mathlib.Core.Path.{◌≡◌, refl}
use mathlib.Core.List.{List, [], ◌∷◌}
use lib.Ieee.{Float, of_int, of_bits, add, sub, mul, div, lt}
use Rattle.grid.specs.Grid.{cleaned}
use Rattle.keywords.specs.declared.Distribution.TheVariants.{Stretch}
use Rattle.keywords.specs.declared.ContentAlignment.TheVariants.{Spread}
use Rattle.std.specs.declared.option.Option.TheVariants.{None, Some}
use Rattle.keywords.specs.declared.Wrap.TheVariants as wrap
use Rattle.place_size.specs.declared.container.Cross.{Cross}
use Rattle.grid.specs.Floats.{counted, gaps}
use Rattle.place_align.specs.Sums.{total_up_to}
use Rattle.place_size.specs.Container.{bounded}
use Rattle.place_cross.specs.Lines.{gain_to, gain, grown, grown_at, line_gain}

container : Cross
container = record { inner = Some (counted 100); minimum = None; maximum = None; gap = counted 10; wrap = wrap.Wrap }

lines : List Float
lines = counted 20 ∷ counted 30 ∷ []

stretched : (grown_at (line_gain container (Spread Stretch) lines) lines 0 ≡ counted 40) × (grown_at (line_gain container (Spread Stretch) lines) lines 1 ≡ counted 50)
unfolding container lines total_up_to gaps bounded gain_to gain grown line_gain cleaned of_int of_bits add sub mul div lt
stretched = (refl, refl)
