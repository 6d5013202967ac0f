-- What the walk along the main axis, line by line, asks. Only contracts of parts cite it. Assumes nothing.
use Rattle.std.specs.Prelude.{List, ℕ, ◌≤◌, length, Float}
use Rattle.place_main.specs.MainAxis.{LineLists, count}
use Rattle.place_main.specs.Parts.{MainOneLength}
use Rattle.lists.specs.ByLine.{Division}

-- what the checks and the breaking before it have shown: the lines have the items of the lists, and there is room for
-- them
pub record MainReady (counts : List ℕ) (l : LineLists) (offsets starts ends : List Float) : Type 0 where
  pub even : MainOneLength l
  pub division : Division counts (count l)
  pub offsets_room : count l ≤ length offsets
  pub starts_room : count l ≤ length starts
  pub ends_room : count l ≤ length ends
