-- Document 01, "Break limit" and "Cross axis": the kinds of available space, and minima and maxima that may be absent.
-- Assumes nothing.
use Rattle.std.specs.Prelude.{cond, ℕ, zero, suc, eqb, Float}
use Rattle.grid.specs.Grid.{cleaned}
use Rattle.grid.specs.Floats.{lowered, raised}
use Rattle.keywords.specs.declared.AvailableSpace.{AvailableSpace}
use Rattle.keywords.specs.declared.AvailableSpace.TheVariants.{Definite, MinContent, MaxContent}
use Rattle.std.specs.declared.option.Option.{Option}
use Rattle.std.specs.declared.option.Option.TheVariants.{None, Some}

-- limit kinds: 0 definite, 1 min-content, 2 max-content; the number is read only under 0
abbrev pub space_of : ℕ → Float → AvailableSpace
space_of zero x = Definite x
space_of (suc zero) x = MinContent
space_of (suc (suc k)) x = MaxContent

-- a minimum or maximum that may be absent
abbrev pub Bound : Type 0
Bound = Option Float

-- a minimum or maximum under code 1; under any other its number is not taken
abbrev pub bound_of : ℕ → Float → Bound
bound_of given x = cond (eqb given 1) (Some x) None

-- "raise it to the minimum if given"
abbrev pub raised_to : Bound → Float → Float
raised_to None x = x
raised_to (Some minimum) x = raised x minimum

-- "lower it to the maximum"
abbrev pub lowered_to : Bound → Float → Float
lowered_to None x = x
lowered_to (Some maximum) x = lowered x maximum

-- "-0.0 reads as 0"
abbrev pub read_bound : Bound → Bound
read_bound None = None
read_bound (Some x) = Some (cleaned x)
