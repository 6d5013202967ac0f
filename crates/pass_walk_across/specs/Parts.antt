-- What the walk across the lines, line by line, asks. Only contracts of parts cite it. Assumes nothing.
use Rattle.std.specs.Prelude.{List, ℕ, ◌≤◌, length, Float}
use Rattle.place_size.specs.CrossSize.{CrossLists, count}
use Rattle.place_cross.specs.Parts.{SameLengths, AcrossRoom}
use Rattle.lists.specs.ByLine.{Division}

-- what the checks and the breaking before it have shown: the lines have the items of the lists, each line has a size,
-- and there is room for the items
pub record AcrossReady (counts : List ℕ) (lines : List Float) (ls : CrossLists) (alignment auto-size : List ℕ)
    (sizes starts ends offsets : List Float) : Type 0 where
  pub lengths : SameLengths ls alignment auto-size
  pub division : Division counts (count ls)
  pub sized : length counts ≤ length lines
  pub room : AcrossRoom (count ls) sizes starts ends offsets
