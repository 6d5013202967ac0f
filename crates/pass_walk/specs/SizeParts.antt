-- What the walk that sizes the lines asks. Only contracts of parts cite it. Assumes nothing.
use Rattle.std.specs.Prelude.{List, ℕ, ◌≤◌, length, Float}
use Rattle.place_size.specs.CrossSize.{CrossLists, count}
use Rattle.place_size.specs.Parts.{CrossOneLength}
use Rattle.lists.specs.ByLine.{Division}

-- what the checks and the breaking before it have shown: the lines have the items of the lists, and there is room for
-- the lines
pub record SizesReady (counts : List ℕ) (ls : CrossLists) (sizes : List Float) : Type 0 where
  pub even : CrossOneLength ls
  pub division : Division counts (count ls)
  pub room : length counts ≤ length sizes
