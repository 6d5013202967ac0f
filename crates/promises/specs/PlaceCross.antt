-- The theorems of auto margins across a line that docs/PROMISES.md names. No contract cites it; proofs/PlaceCross.antt
-- fills it. Assumes nothing.
use Rattle.std.specs.Prelude.{◌≡◌, true, false, cond, T, ◌+ℤ◌, Float}
use Rattle.std.specs.Float.Ieee.{lt}
use Rattle.grid.specs.Floats.{nought}
use Rattle.grid.specs.Grid.{on_grid, sixty_fourths}
use Rattle.place_size.specs.CrossSize.{or_nought}
use Rattle.place_size.specs.declared.cross_size.CrossItem.{CrossItem}
use Rattle.place_cross.specs.CrossAxis.{has_auto, free_cross, auto_margin, start_margin, end_margin}
use Rattle.place_cross.proofs.ShortLine.{Small}
use Rattle.place_cross.proofs.Worked.{Worked}

pub record Promised : Type 0 where
  -- with free space of 0 or more each auto margin takes its share, and a given one stays
  pub start_long : (free : Float) (it : CrossItem) → lt free nought ≡ false
      → start_margin free it ≡ cond it.auto_start (auto_margin free it) it.start
  pub end_long : (free : Float) (it : CrossItem) → lt free nought ≡ false
      → end_margin free it ≡ cond it.auto_end (auto_margin free it) it.end
  -- on a line too short for it an auto start margin is 0, a given one stays
  pub short_start : (line size : Float) (it : CrossItem) → lt (free_cross line it size) nought ≡ true
      → start_margin (free_cross line it size) it ≡ or_nought it.auto_start it.start
  -- and the end margin makes the outer cross size that of the line
  pub short_fills : (line size : Float) (it : CrossItem) → Small line → Small size
      → Small (or_nought it.auto_start it.start) → Small (or_nought it.auto_end it.end) → T (has_auto it)
      → lt (free_cross line it size) nought ≡ true → T (on_grid (end_margin (free_cross line it size) it))
      × (sixty_fourths (end_margin (free_cross line it size) it) +ℤ (sixty_fourths size
      +ℤ sixty_fourths (start_margin (free_cross line it size) it)) ≡ sixty_fourths line)
  -- nine cases in numbers, five of them on a line too short
  pub worked : Worked
