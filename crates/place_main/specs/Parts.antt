-- What the parts of the call for the main axis ask of its lists. Only contracts of parts cite it. Assumes nothing.
use Rattle.std.specs.Prelude.{◌≡◌, ◌≤◌, length}
use Rattle.place_main.specs.MainAxis.{LineLists, count}

-- the lists are of one length, of at most 1,024
pub record MainOneLength (l : LineLists) : Type 0 where
  pub few : count l ≤ 1024
  pub start : length l.start ≡ count l
  pub end : length l.end ≡ count l
  pub auto_start : length l.auto_start ≡ count l
  pub auto_end : length l.auto_end ≡ count l
