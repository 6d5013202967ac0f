-- AN ACCEPTED RUN of the whole pass: document 01's sections in their order, each by its own definition, on what the one
-- before it answers. Assumes nothing.
use Rattle.std.specs.Prelude.{List, [], ℕ, ◌*◌, take, ℤ, Float}
use Rattle.grid.specs.Grid.{cleaned}
use Rattle.flex.specs.Items.{item_at, items_of}
use Rattle.flex_lines.specs.Lines.{FlexedLines}
use Rattle.balance.specs.Calls as balance
use Rattle.pass_break.specs.Wrapping as wrapping
use Rattle.pass_break.specs.Outer.{outer_sizes}
use Rattle.keywords.specs.Alignment.{content_of}
use Rattle.keywords.specs.Wrapping.{is_reversed}
use Rattle.place_cross.specs.Lines.{Aligned}
use Rattle.lists.specs.Cells.{Past}
use Rattle.pass_walk.specs.Main.{MainLines}
use Rattle.pass_walk.specs.Sizes.{cross_sizes}
use Rattle.pass_walk_across.specs.Cross.{AcrossLines}
use Rattle.pass_container.specs.declared.Container.{Container}
use Rattle.pass_container.specs.Columns.{column, zeros, main_lists, main_items, cross_items, align_self, auto_size}
use Rattle.pass_container.specs.Container.{limit_space, reversed, wrap_mode, break_mode, cross_axis}

-- ---- the lent lists

-- `placed` holds eight lists by item: main size, main offset, used main margins (start, end), cross size, cross offset,
-- used cross margins (start, end); `lines` two by line: cross sizes, cross offsets
pub record PassLent : Type 0 where
  pub placed : List Float
  pub lines : List Float
  pub counts : List ℕ
  pub rounds : List ℕ
  pub free : List ℤ
  pub work : List ℕ
  pub sums : List Float

abbrev pub pass_lent : List Float → List Float → List ℕ → List ℕ → List ℤ → List ℕ → List Float → PassLent
pass_lent p l k r f w s = record { placed = p; lines = l; counts = k; rounds = r; free = f; work = w; sums = s }

-- those lists, each of n cells
abbrev pub placed_main_size : ℕ → PassLent → List Float
placed_main_size n l = column n 0 l.placed

abbrev pub placed_main_offset : ℕ → PassLent → List Float
placed_main_offset n l = column n 1 l.placed

abbrev pub placed_main_start : ℕ → PassLent → List Float
placed_main_start n l = column n 2 l.placed

abbrev pub placed_main_end : ℕ → PassLent → List Float
placed_main_end n l = column n 3 l.placed

abbrev pub placed_cross_size : ℕ → PassLent → List Float
placed_cross_size n l = column n 4 l.placed

abbrev pub placed_cross_offset : ℕ → PassLent → List Float
placed_cross_offset n l = column n 5 l.placed

abbrev pub placed_cross_start : ℕ → PassLent → List Float
placed_cross_start n l = column n 6 l.placed

abbrev pub placed_cross_end : ℕ → PassLent → List Float
placed_cross_end n l = column n 7 l.placed

abbrev pub laid_line_size : ℕ → PassLent → List Float
laid_line_size n l = column n 0 l.lines

abbrev pub laid_line_offset : ℕ → PassLent → List Float
laid_line_offset n l = column n 1 l.lines

-- ---- an accepted run

-- so many lines, the sum of their rounds, and the container's inner cross size
pub record Laid (c : Container) (n : ℕ) (x : List Float) (codes : List ℕ) (before : PassLent) (lines sum : ℕ)
    (inner : Float) (after : PassLent) : Type 0 where
  -- "Breaking", of the hypothetical outer main sizes
  pub broken : wrapping.Wrapped (break_mode c) (limit_space c) (cleaned c.gap_main) c.minimum_lines
      (outer_sizes (items_of (main_lists n x codes))) (balance.break_lent before.counts before.work before.sums)
      lines (balance.break_lent after.counts after.work after.sums)
  -- "Flexible lengths", of each line
  pub flexed : FlexedLines (cleaned c.inner_main) (cleaned c.gap_main) (item_at (main_lists n x codes)) n
      (take lines after.counts) sum (zeros n) before.free before.rounds (placed_main_size n after) after.free
      after.rounds
  -- "Main axis", of each line
  pub spaced : MainLines c.inner_main c.gap_main (content_of c.justify_content) (reversed c)
      (take lines after.counts) (main_items n x codes (placed_main_size n after)) (zeros n) (zeros n) (zeros n)
      (placed_main_offset n after) (placed_main_start n after) (placed_main_end n after)
  -- "Cross axis": the lines, sized by their items, along it. Sizes and offsets are put over n zeros: "cells past the
  -- last line get 0"
  pub aligned : Aligned (cross_axis c) (content_of c.align_content)
      (cross_sizes (cross_axis c) (take lines after.counts) (cross_items n x codes) []) (zeros n) (zeros n) inner
      (laid_line_size n after) (laid_line_offset n after)
  -- and the items across each line
  pub across : AcrossLines (is_reversed (wrap_mode c)) (take lines after.counts) (laid_line_size n after)
      (cross_items n x codes) (align_self n codes) (auto_size n codes) (zeros n) (zeros n) (zeros n) (zeros n)
      (placed_cross_size n after) (placed_cross_start n after) (placed_cross_end n after) (placed_cross_offset n after)
  -- "all cells past the named ones are unchanged"
  pub placed_past : Past (8 * n) before.placed after.placed
  pub lines_past : Past (2 * n) before.lines after.lines
