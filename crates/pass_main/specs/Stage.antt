-- The main axis of the whole pass: what it asks, and what it gives, by the definitions of flexing and of the main axis.
-- Only contracts of parts cite it. Assumes nothing.
use Rattle.std.specs.Prelude.{◌≡◌, List, ℕ, ◌*◌, ◌≤◌, length, drop, ℤ, Float}
use Rattle.grid.specs.Grid.{cleaned}
use Rattle.flex.specs.declared.Item.{Item}
use Rattle.flex.specs.Items.{item_at}
use Rattle.flex_table.specs.Table.{Held}
use Rattle.flex_lines.specs.Lines.{FlexedLines}
use Rattle.flex_lines.specs.Parts.{Lined}
use Rattle.keywords.specs.Alignment.{content_of}
use Rattle.pass_walk.specs.Main.{MainLines}
use Rattle.pass_container.specs.declared.Container.{Container}
use Rattle.pass_container.specs.Columns.{column, zeros, main_lists, main_items}
use Rattle.pass_container.specs.Container.{reversed}
use Rattle.pass_container.specs.Stages.{ItemLists}

-- what the checks show, and what has been read: the lists are there, the table holds the items, the counts are lines of
-- them, and there is room
-- (a clause, and no type: table, counts and room are of lists that other stages write)
pub record MainStageReady (c : Container) (n : ℕ) (t : List Item) (x : List Float) (codes counts : List ℕ)
    (free : List ℤ) (rounds : List ℕ) : Type 0 where
  pub listed : ItemLists n x codes
  pub held : Held (main_lists n x codes) t
  pub lined : Lined (cleaned c.inner_main) (cleaned c.gap_main) t n counts (zeros n) free rounds

-- each line flexed, and then its items spaced: targets, offsets, and used margins
pub record Run (c : Container) (n : ℕ) (x : List Float) (codes counts : List ℕ) (free₀ : List ℤ) (rounds₀ : List ℕ)
    (sum : ℕ) (targets offsets starts ends : List Float) (free : List ℤ) (rounds : List ℕ) : Type 0 where
  pub flexed : FlexedLines (cleaned c.inner_main) (cleaned c.gap_main) (item_at (main_lists n x codes)) n counts
      sum (zeros n) free₀ rounds₀ targets free rounds
  pub spaced : MainLines c.inner_main c.gap_main (content_of c.justify_content) (reversed c) counts
      (main_items n x codes targets) (zeros n) (zeros n) (zeros n) offsets starts ends

-- the same in lists 0 to 3 of `placed`, whose other cells are as they were
pub record MainStage (c : Container) (n : ℕ) (x : List Float) (codes counts : List ℕ) (placed₀ : List Float)
    (free₀ : List ℤ) (rounds₀ : List ℕ) (sum : ℕ) (placed : List Float) (free : List ℤ) (rounds : List ℕ) : Type 0 where
  pub run : Run c n x codes counts free₀ rounds₀ sum (column n 0 placed) (column n 1 placed) (column n 2 placed)
      (column n 3 placed) free rounds
  pub others : (j : ℕ) → 4 ≤ j → column n j placed ≡ column n j placed₀
  pub past : (m : ℕ) → 4 ≤ m → drop (m * n) placed ≡ drop (m * n) placed₀
  pub long : length placed ≡ length placed₀
