-- What the parts that read the items of a line across it ask of their lists. Only contracts of parts cite it. Assumes
-- nothing.
use Rattle.std.specs.Prelude.{◌≡◌, ◌≤◌, length}
use Rattle.place_size.specs.CrossSize.{CrossLists, count}

-- the lists are of one length, of at most 1,024
pub record CrossOneLength (ls : CrossLists) : Type 0 where
  pub few : count ls ≤ 1024
  pub minimum : length ls.minimum ≡ count ls
  pub maximum : length ls.maximum ≡ count ls
  pub capped : length ls.capped ≡ count ls
  pub edges : length ls.edges ≡ count ls
  pub start : length ls.start ≡ count ls
  pub end : length ls.end ≡ count ls
  pub auto_start : length ls.auto_start ≡ count ls
  pub auto_end : length ls.auto_end ≡ count ls
