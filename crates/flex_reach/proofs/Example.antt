-- Lines are accepted: P10's, inner 300 with two bases of 100 that grow by 1 and 3, each test computed. Assumes nothing.
use mathlib.Core.Path.{refl}
use mathlib.Core.Logic.{inl}
use mathlib.Core.Bool.{false}
use mathlib.Core.List.{[], ◌∷◌}
use lib.Dec.{T, lit≤}
use lib.IntN.{pos}
use lib.Ieee.{Float, inf, fin, le, fits, of_bits, lt, eq}
use Rattle.grid.specs.Grid.{on_grid, within, sixty_fourths}
use Rattle.flex.specs.declared.Item.{Item}
use Rattle.grid.specs.Floats.{nought}
use Rattle.flex.specs.Flex.{clamp, outer_sum}
use Rattle.flex_reach.specs.Reach.{IsSize, IsFactor, IsItem, IsLine}

-- 0, 1, 3, 100 and 300
zero : Float
zero = fin false 0 (pos 0)

one : Float
one = fin false 1 (pos 0)

three : Float
three = fin false 3 (pos 0)

hundred : Float
hundred = fin false 25 (pos 2)

inner : Float
inner = fin false 75 (pos 2)

item : Float → Item
item grow = record { base = hundred; minimum = zero; maximum = inf false; edges = zero; grow = grow; shrink = one; start = zero; end = zero }

size : (x : Float) → T (on_grid x) → T (within 262144 x) → T (le nought x) → IsSize x
size x g w a = record { grid = g; small = w; above = a }

grown : (grow : Float) → IsFactor grow → IsItem (item grow)
unfolding zero one hundred item on_grid within le lt eq fits of_bits
grown grow f = record {
  base = size hundred tt tt tt;
  minimum = size zero tt tt tt;
  maximum = inl refl;
  edges = size zero tt tt tt;
  grow = f;
  shrink = record { single = tt; small = tt; above = tt };
  start = record { grid = tt; small = tt };
  end = record { grid = tt; small = tt };
}

p10 : IsLine inner zero (item one ∷ item three ∷ [])
unfolding zero one three hundred inner item on_grid within sixty_fourths le lt eq fits of_bits clamp outer_sum
p10 = record {
  inner_is = size inner tt tt tt;
  gap_is = size zero tt tt tt;
  items_are = (grown one (record { single = tt; small = tt; above = tt }), (grown three (record { single = tt; small = tt; above = tt }), tt));
  few = lit≤ tt;
  sum = lit≤ tt;
}
