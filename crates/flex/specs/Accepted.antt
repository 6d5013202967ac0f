-- What flexing asks of the items and the lists that the checks accepted. Only contracts of parts cite it. Assumes
-- nothing.
use Rattle.std.specs.Prelude.{◌≡◌, ◌⊎◌, false, List, [], ◌∷◌, ◌≤◌, length, nat_abs, Float}
use Rattle.std.specs.Float.{inf}
use Rattle.grid.specs.Grid.{sixty_fourths}
use Rattle.grid.specs.Values.{Length}
use Rattle.flex.specs.declared.Item.{Item}
use Rattle.flex.specs.Items.{Lists, count}
use Rattle.flex.specs.Flex.{outer_sum}

-- ---- the items of a line

-- a length of at most 131,072 px either way
pub record Margin (x : Float) : Type 0 where
  pub length : Length x
  pub small : nat_abs (sixty_fourths x) ≤ 8388608

pub record Measured (it : Item) : Type 0 where
  pub base : Length it.base
  pub minimum : Length it.minimum
  pub maximum : (it.maximum ≡ inf false) ⊎ Length it.maximum
  pub edges : Length it.edges
  pub start : Margin it.start
  pub end : Margin it.end

abbrev pub Every : (Item → Type 0) → List Item → Type 0
Every P [] = Unit {0}
Every P (it ∷ l) = P it × Every P l

-- what the checks accepted of a line (a clause, and no type: `some_answer` and `overfull` speak of inner size, gap and
-- items one by one)
pub record Accepted (inner gap : Float) (items : List Item) : Type 0 where
  pub inner_is : Length inner
  pub gap_is : Length gap
  pub items_are : Every Measured items
  pub within : outer_sum gap items ≤ 16777216

-- ---- the lists of a call

-- they are of one length
pub record Even (ls : Lists) : Type 0 where
  pub few : count ls ≤ 1024
  pub minimum : length ls.minimum ≡ count ls
  pub maximum : length ls.maximum ≡ count ls
  pub has_maximum : length ls.has_maximum ≡ count ls
  pub edges : length ls.edges ≡ count ls
  pub grow : length ls.grow ≡ count ls
  pub shrink : length ls.shrink ≡ count ls
  pub start : length ls.start ≡ count ls
  pub end : length ls.end ≡ count ls
  pub auto_start : length ls.auto_start ≡ count ls
  pub auto_end : length ls.auto_end ≡ count ls
