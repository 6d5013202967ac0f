-- The table of kinds that the code goes by, and the question that it asks of a number first. Only contracts of parts
-- cite it. Assumes nothing.
use Rattle.std.specs.Prelude.{Bool, true, false, not, ◌||◌, ℕ, pos, Float}
use Rattle.std.specs.Float.{binary32}
use Rattle.std.specs.Float.Ieee.{neg, of_int}
use Rattle.checks.specs.declared.Kind.{Kind}
use Rattle.checks.specs.declared.Kind.TheVariants.{Length, Margin, Size, Factor, Worked}
use Rattle.checks.specs.Domain.{Number, not_finite, off_grid, out_of_range}
use Rattle.checks_number.specs.declared.Bounds.{Bounds}

-- n px
abbrev pub px : ℕ → Float
px n = of_int binary32 (pos n)

abbrev pub between : Float → Float → Bool → Bounds
between least greatest unheld = record { low = least; high = greatest; free = unheld }

-- the least and the greatest number of a kind, and whether it is free of the grid: `in_bounds` of proofs/ says that
-- this is `inRange`
abbrev pub bounds_of : Kind → Bounds
bounds_of Length = between (neg (px 262144)) (px 262144) false
bounds_of Margin = between (neg (px 131072)) (px 131072) false
bounds_of Size = between (px 0) (px 262144) false
bounds_of Factor = between (px 0) (px 1024) true
bounds_of Worked = between (neg (px 16777216)) (px 16777216) true

-- none of checks 3, 4 and 5 refuses the number
abbrev pub fine : Number → Bool
fine x = not (not_finite x || (off_grid x || out_of_range x))
