-- What "depend only on the container, the line ranges and its own items" means in the theorem `pass_independent` of
-- proofs/LineAlone.antt: of two accepted runs in one container, with `SameItems` in line j of the one and line j' of
-- the other, it says `SameLine`. Assumes nothing.
use Rattle.std.specs.Prelude.{◌≡◌, List, ℕ, ◌<◌, get_or, Float}
use Rattle.lists.specs.ByLine.{part}
use Rattle.flex_lines.specs.Alone.{SameFlexed}
use Rattle.pass_container.specs.Columns.{column}
use Rattle.pass.specs.Laid.{PassLent, placed_main_size, placed_main_offset, placed_main_start, placed_main_end}

-- as many items, and in them the same numbers and codes of the main axis: lists 0 to 7 of the numbers, 0 to 2 of the
-- codes
pub record SameItems (counts counts' : List ℕ) (j j' n n' : ℕ) (x x' : List Float)
    (codes codes' : List ℕ) : Type 0 where
  pub as_many : get_or counts j 0 ≡ get_or counts' j' 0
  pub numbers : (k : ℕ) → k < 8 → part counts j (column n k x) ≡ part counts' j' (column n' k x')
  pub marks : (k : ℕ) → k < 3 → part counts j (column n k codes) ≡ part counts' j' (column n' k codes')

-- what two runs say of a line: its free space and rounds, and of its items targets, offsets and used margins
pub record SameLine (counts counts' : List ℕ) (j j' n n' : ℕ) (a a' : PassLent) : Type 0 where
  pub flexed : SameFlexed counts counts' j j' (placed_main_size n a) (placed_main_size n' a') a.free a'.free
      a.rounds a'.rounds
  pub offsets : part counts j (placed_main_offset n a) ≡ part counts' j' (placed_main_offset n' a')
  pub starts : part counts j (placed_main_start n a) ≡ part counts' j' (placed_main_start n' a')
  pub ends : part counts j (placed_main_end n a) ≡ part counts' j' (placed_main_end n' a')
