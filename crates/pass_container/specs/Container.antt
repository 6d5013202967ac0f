-- The container of the pass, one struct of numbers: what it says of the limit, the direction, how lines break, and the
-- cross axis. Assumes nothing.
use Rattle.std.specs.Prelude.{Bool, ◌||◌, eqb}
use Rattle.keywords.specs.declared.AvailableSpace.{AvailableSpace}
use Rattle.keywords.specs.Space.{space_of}
use Rattle.keywords.specs.declared.Wrap.{Wrap}
use Rattle.keywords.specs.declared.Mode.{Mode}
use Rattle.place_size.specs.declared.container.Cross.{Cross}
use Rattle.keywords.specs.Wrapping.{wrap_of, mode_of}
use Rattle.place_checks.specs.declared.numbers.CrossNumbers.{CrossNumbers}
use Rattle.place_checks.specs.Numbers.{cross_of}
use Rattle.pass_container.specs.declared.Container.{Container}

-- the limit of "Breaking": kinds 0 definite, 1 min-content, 2 max-content
abbrev pub limit_space : Container → AvailableSpace
limit_space c = space_of c.limit_kind c.limit

-- directions: 0 row, 1 row-reverse, 2 column, 3 column-reverse
abbrev pub reversed : Container → Bool
reversed c = eqb c.direction 1 || eqb c.direction 3

-- wrap modes: 0 nowrap, 1 wrap, 2 wrap-reverse, 3 balance, 4 balance-reverse
abbrev pub wrap_mode : Container → Wrap
wrap_mode c = wrap_of c.wrap

-- how its lines break
abbrev pub break_mode : Container → Mode
break_mode c = mode_of (wrap_mode c)

-- the cross axis in numbers, wrap mode and all
abbrev pub cross_numbers_of : Container → CrossNumbers
cross_numbers_of c = record {
  inner = c.inner_cross;
  has_inner = c.has_inner_cross;
  minimum = c.minimum_cross;
  has_minimum = c.has_minimum_cross;
  maximum = c.maximum_cross;
  has_maximum = c.has_maximum_cross;
  gap = c.gap_cross;
  wrap = c.wrap;
}

abbrev pub cross_axis : Container → Cross
cross_axis c = cross_of (cross_numbers_of c)
