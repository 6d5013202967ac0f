-- Document 01, "Cross axis": the container's inner cross size, and the bounds on it. Assumes nothing.
use Rattle.std.specs.Prelude.{Float}
use Rattle.grid.specs.Grid.{cleaned}
use Rattle.std.specs.declared.option.Option.{Option}
use Rattle.std.specs.declared.option.Option.TheVariants.{None, Some}
use Rattle.keywords.specs.Space.{raised_to, lowered_to, read_bound}
use Rattle.place_size.specs.declared.container.Cross.{Cross}

-- "-0.0 reads as 0"
unfoldable pub read_cross : Cross → Cross
read_cross c = record {
  inner = read_bound c.inner;
  minimum = read_bound c.minimum;
  maximum = read_bound c.maximum;
  gap = cleaned c.gap;
  wrap = c.wrap;
}

-- "clamped by the container's inner cross bounds": lowered to the maximum, then raised to the minimum
unfoldable pub bounded : Cross → Float → Float
bounded c x = raised_to c.minimum (lowered_to c.maximum x)

abbrev pub bounded_by : Cross → Option Float → Option Float
bounded_by c None = None
bounded_by c (Some x) = Some (bounded c x)

-- "a given inner size, single-line or not, is clamped so first"
abbrev pub inner_size : Cross → Option Float
inner_size c = bounded_by c c.inner

-- the inner size where it is definite, else x clamped
abbrev pub or_bounded : Cross → Option Float → Float → Float
or_bounded c None x = bounded c x
or_bounded c (Some inner) x = inner
