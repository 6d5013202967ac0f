-- Where a text stands. Only contracts of parts cite it. Assumes nothing.
use Rattle.std.specs.Prelude.{◌≡◌, List, ◌++◌, ℕ, ◌+◌, length, take}
use Rattle.capture_text.specs.declared.Text.{Text}

-- `text` is written at `at` of a list, which is as it was before that, and `next` is past it
pub record Put (text before after : List ℕ) (at next : ℕ) : Type 0 where
  pub past : next ≡ at + length text
  pub front : take next after ≡ take at before ++ text
  pub as_long : length after ≡ length before

-- the same in the cells of a text that is being written, which are those that were lent
pub record Puts (text : List ℕ) (before after : Text) : Type 0 where
  pub past : after.length ≡ before.length + length text
  pub front : take after.length after.cells.now ≡ take before.length before.cells.now ++ text
  pub as_long : length after.cells.now ≡ length before.cells.now
  pub same_cells : after.cells.ghost_name ≡ before.cells.ghost_name
