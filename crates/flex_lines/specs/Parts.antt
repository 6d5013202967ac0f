-- Many lines: what their loop asks, and what it gives before the cells past the last line are cleared. Only contracts
-- of parts cite it. Assumes nothing.
use Rattle.std.specs.Prelude.{◌≡◌, List, [], ℕ, ◌≤◌, ◌<◌, length, get_or, drop, ℤ, pos, Float}
use Rattle.grid.specs.Values.{Length}
use Rattle.lists.specs.Cells.{sum_up_to}
use Rattle.flex.specs.declared.Item.{Item}
use Rattle.flex.specs.Flex.{Flexed, outer_sum}
use Rattle.flex_table.specs.Table.{items_in, Wide, Tabled}
use Rattle.lists.specs.ByLine.{line_start, part}
use Rattle.flex_lines.specs.Lines.{line_items}

-- what checks 1 to 5 show: the lines have the n items of the table, none of them is empty, and there is room
pub record LinesDivided (inner gap : Float) (t : List Item) (n : ℕ) (counts : List ℕ) (targets : List Float)
    (free : List ℤ) (rounds : List ℕ) : Type 0 where
  pub inner_is : Length inner
  pub gap_is : Length gap
  pub wide : Wide t n
  pub tabled : Tabled t n
  pub whole : line_start counts (length counts) ≡ n
  pub positive : (j : ℕ) → j < length counts → 0 < get_or counts j 0
  pub room : n ≤ length targets
  pub free_room : n ≤ length free
  pub rounds_room : n ≤ length rounds

-- and check 6
pub record Lined (inner gap : Float) (t : List Item) (n : ℕ) (counts : List ℕ) (targets : List Float) (free : List ℤ)
    (rounds : List ℕ) : Type 0 where
  pub divided : LinesDivided inner gap t n counts targets free rounds
  pub within : outer_sum gap (items_in t 0 n) ≤ 16777216

-- a list of which the cells from k on are as they were
pub record Ahead {A : Type 0} (none : A) (k : ℕ) (old new : List A) : Type 0 where
  pub long : length new ≡ length old
  pub rest : (j : ℕ) → k ≤ j → get_or new j none ≡ get_or old j none

-- the first k lines are flexed
pub record Flowed (inner gap : Float) (item : ℕ → Item) (counts : List ℕ) (k sum : ℕ) (targets₀ : List Float)
    (free₀ : List ℤ) (rounds₀ : List ℕ) (targets : List Float) (free : List ℤ) (rounds : List ℕ) : Type 0 where
  pub line : (j : ℕ) → j < k → Flexed inner gap (line_items item counts j) (get_or free j (pos 0)) (get_or rounds j 0)
      [] (part counts j targets)
  pub sum_is : sum ≡ sum_up_to (λ j. get_or rounds j 0) k
  pub long : length targets ≡ length targets₀
  pub past : drop (line_start counts k) targets ≡ drop (line_start counts k) targets₀
  pub free_past : Ahead (pos 0) k free₀ free
  pub rounds_past : Ahead 0 k rounds₀ rounds
