-- What the whole pass breaks: the items' hypothetical outer main sizes, as CSS-FLEX 9.3 says and the Rust does;
-- document 01 takes the same for check 6. Assumes nothing.
use Rattle.std.specs.Prelude.{List, map, Float}
use Rattle.flex.specs.declared.Item.{Item}
use Rattle.flex.specs.Flex.{outer, hypothetical}

-- the items' hypothetical outer main sizes, in pixels; of accepted items they are `outer_units` of 9.7 in
-- sixty-fourths, by `table-units`
abbrev pub outer_sizes : List Item → List Float
outer_sizes items = map (λ it. outer it (hypothetical it)) items
