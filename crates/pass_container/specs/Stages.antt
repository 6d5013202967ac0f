-- What the parts of the pass say of columns in one list of cells. Only contracts of parts cite it. Assumes nothing.
use Rattle.std.specs.Prelude.{◌≡◌, ◌⊎◌, List, ℕ, ◌+◌, ◌*◌, ◌≤◌, ◌<◌, length, drop, Float}
use Rattle.pass_container.specs.Columns.{column}

-- ---- columns

-- list k of n cells is one of those that a list holds
-- (a clause, and no type: the list is lent, or read, of floats or of codes)
pub record Inside {A : Type 0} (n k : ℕ) (l : List A) : Type 0 where
  pub few : n ≤ 1024
  pub one_of : k ≤ 13
  pub inside : k * n + n ≤ length l

-- checks 1 and 2 of the items' lists: n items, and their lists of numbers and codes
pub record ItemLists (n : ℕ) (numbers : List Float) (codes : List ℕ) : Type 0 where
  pub few : n ≤ 1024
  pub numbers_long : length numbers ≡ 14 * n
  pub codes_long : length codes ≡ 8 * n

-- list k is the part, and every other cell is as it was
pub record ColumnStored (n k : ℕ) (part old new : List Float) : Type 0 where
  pub here : column n k new ≡ part
  pub others : (j : ℕ) → (j < k) ⊎ (k < j) → column n j new ≡ column n j old
  pub past : (m : ℕ) → k < m → drop (m * n) new ≡ drop (m * n) old
  pub long : length new ≡ length old

-- the same of four lists, k and those after it
pub record FourStored (n k : ℕ) (a b c d old new : List Float) : Type 0 where
  pub first : column n k new ≡ a
  pub second : column n (k + 1) new ≡ b
  pub third : column n (k + 2) new ≡ c
  pub fourth : column n (k + 3) new ≡ d
  pub others : (j : ℕ) → (j < k) ⊎ (k + 4 ≤ j) → column n j new ≡ column n j old
  pub past : (m : ℕ) → k + 4 ≤ m → drop (m * n) new ≡ drop (m * n) old
  pub long : length new ≡ length old
