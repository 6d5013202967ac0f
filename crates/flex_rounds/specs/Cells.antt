-- A line's items with their frozen marks and targets. Only contracts of parts cite it. Assumes nothing.
use Rattle.std.specs.Prelude.{◌≡◌, Bool, false, List, ℕ, ◌≤◌, length, get_or, Float}
use Rattle.std.specs.Float.{nan}
use Rattle.lists.specs.Cells.{each}
use Rattle.flex.specs.declared.Item.{Item}
use Rattle.flex.specs.declared.Line.{Line}
use Rattle.flex.specs.Flex.{Cell, after, Runs}
use Rattle.flex_table.specs.Table.{item_in}

abbrev pub cell_at : List Item → List Bool → List Float → ℕ → Cell
cell_at items frozen targets i = record {
  item = item_in items i;
  frozen = get_or frozen i false;
  target = get_or targets i nan;
}

abbrev pub cells_of : List Item → List Bool → List Float → List Cell
cells_of items frozen targets = each (length items) (cell_at items frozen targets)

-- the line has at most 1,024 items, and room in the marks and the targets
-- (a clause, and no type: marks and targets are lent, and each step speaks of them before and after)
pub record LineRoom (items : List Item) (frozen : List Bool) (targets : List Float) : Type 0 where
  pub few : length items ≤ 1024
  pub marks : length items ≤ length frozen
  pub room : length items ≤ length targets

-- the targets past the first n are as they were
abbrev pub Untouched : ℕ → List Float → List Float → Type 0
Untouched n old new = (k : ℕ) → n ≤ k → get_or new k nan ≡ get_or old k nan

-- the marks and targets after a call are the given cells, and the targets past them as before
pub record Rewritten (items : List Item) (cells : List Cell) (targets₀ : List Float) (frozen : List Bool)
    (targets : List Float) : Type 0 where
  pub cells_are : cells_of items frozen targets ≡ cells
  pub kept : Untouched (length items) targets₀ targets

-- all rounds, from the marks and targets before a call
pub record Ran (items : List Item) (ln : Line) (rounds : ℕ) (frozen₀ : List Bool) (targets₀ : List Float)
    (frozen : List Bool) (targets : List Float) : Type 0 where
  pub number : Runs ln (cells_of items frozen₀ targets₀) rounds
  pub written : Rewritten items (after ln rounds (cells_of items frozen₀ targets₀)) targets₀ frozen targets
