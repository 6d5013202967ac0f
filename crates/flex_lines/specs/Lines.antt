-- Many lines flexed (document 01, "Flexible lengths": "Calls over many lines list free space and rounds by line and
-- answer the rounds' sum"). Assumes nothing.
use Rattle.std.specs.Prelude.{◌≡◌, List, [], ℕ, ◌+◌, ◌≤◌, ◌<◌, length, get_or, drop, ℤ, pos, Float}
use Rattle.lists.specs.Cells.{sum_up_to, each}
use Rattle.lists.specs.ByLine.{line_start, part}
use Rattle.flex.specs.declared.Item.{Item}
use Rattle.flex.specs.Flex.{Flexed}

-- a line's items
abbrev pub line_items : (ℕ → Item) → List ℕ → ℕ → List Item
line_items item counts j = each (get_or counts j 0) (λ i. item (line_start counts j + i))

-- a list by line beyond its k lines: "cells past the last line get 0", up to n; and "all cells past the named ones are
-- unchanged"
pub record Beyond {A : Type 0} (zero-cell : A) (k n : ℕ) (old new : List A) : Type 0 where
  pub long : length new ≡ length old
  pub zeros : (j : ℕ) → k ≤ j → j < n → get_or new j zero-cell ≡ zero-cell
  pub kept : (j : ℕ) → n ≤ j → get_or new j zero-cell ≡ get_or old j zero-cell

-- every line is flexed by its own items alone; and the sum of the rounds
pub record FlexedLines (inner gap : Float) (item : ℕ → Item) (n : ℕ) (counts : List ℕ) (sum : ℕ) (targets₀ : List Float)
    (free₀ : List ℤ) (rounds₀ : List ℕ) (targets : List Float) (free : List ℤ) (rounds : List ℕ) : Type 0 where
  pub line : (j : ℕ) → j < length counts → Flexed inner gap (line_items item counts j) (get_or free j (pos 0))
      (get_or rounds j 0) [] (part counts j targets)
  pub sum_is : sum ≡ sum_up_to (λ j. get_or rounds j 0) (length counts)
  pub long : length targets ≡ length targets₀
  pub past : drop n targets ≡ drop n targets₀
  pub free_past : Beyond (pos 0) (length counts) n free₀ free
  pub rounds_past : Beyond 0 (length counts) n rounds₀ rounds
