-- What the parts that place the items of a line across it ask of their lists. Only contracts of parts cite it. Assumes
-- nothing.
use Rattle.std.specs.Prelude.{◌≡◌, List, ℕ, ◌≤◌, length, Float}
use Rattle.place_size.specs.CrossSize.{CrossLists, count}
use Rattle.place_size.specs.Parts.{CrossOneLength}

-- the codes of `align-self`, and of an auto cross size, are as many as the items
pub record SameLengths (ls : CrossLists) (alignment auto-size : List ℕ) : Type 0 where
  pub even : CrossOneLength ls
  pub alignment_length : length alignment ≡ count ls
  pub auto_length : length auto-size ≡ count ls

-- each lent list has a cell for each of the n items
pub record AcrossRoom (n : ℕ) (sizes starts ends offsets : List Float) : Type 0 where
  pub sizes_room : n ≤ length sizes
  pub starts_room : n ≤ length starts
  pub ends_room : n ≤ length ends
  pub offsets_room : n ≤ length offsets
