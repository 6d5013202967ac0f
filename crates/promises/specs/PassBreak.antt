-- The theorems of the lines by wrap mode that docs/PROMISES.md names. No contract cites it; proofs/PassBreak.antt fills
-- it. Assumes nothing.
use Rattle.std.specs.Prelude.{◌≡◌, List, map, ℕ, ◌≤◌, length, take, Float}
use Rattle.keywords.specs.declared.AvailableSpace.{AvailableSpace}
use Rattle.keywords.specs.declared.Mode.{Mode}
use Rattle.break_greedy.specs.Calls.{count_cells, units}
use Rattle.flex.specs.declared.Item.{Item}
use Rattle.flex.specs.Flex.{outer_units, outer_sum}
use Rattle.flex_table.specs.Table.{items_in, Tabled}
use Rattle.pass_break.specs.Outer.{outer_sizes}
use Rattle.pass_break.specs.Wrapping.{Lines}
use Rattle.pass_break.proofs.Division.{Divides}

pub record Promised : Type 0 where
  -- the lines of every wrap mode are positive and have all items
  pub lines_divide : (limit : AvailableSpace) (gap : Float) (minimum : ℕ) (sizes : List Float) (mode : Mode)
      (lines : List ℕ) → Lines mode limit gap minimum sizes lines → Divides (length sizes) lines
  -- and they are what is read back of the cells that a call leaves, as many as it answers
  pub read_back : (n : ℕ) (lines before : List ℕ) → take (length lines) (count_cells n lines before) ≡ lines
  -- the outer sizes that are broken are, of accepted items, `outer_units` of 9.7 in sixty-fourths
  pub table-units : (t : List Item) (n : ℕ) (gap : Float) → Tabled t n → outer_sum gap (items_in t 0 n) ≤ 16777216
      → units (outer_sizes (items_in t 0 n)) ≡ map outer_units (items_in t 0 n)
