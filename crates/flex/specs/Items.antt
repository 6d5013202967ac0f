-- The items of a line, from the lists that a call takes (document 01, "Domain and refusal numbers"). Assumes nothing.
use Rattle.std.specs.Prelude.{false, cond, List, ℕ, eqb, length, get_or, Float}
use Rattle.std.specs.Float.{nan, inf}
use Rattle.grid.specs.Grid.{cleaned}
use Rattle.flex.specs.declared.Item.{Item}
use Rattle.flex.specs.declared.items.ItemLists.{ItemLists}
use Rattle.lists.specs.Cells.{each}
use Rattle.grid.specs.Floats.{nought}

-- ---- what a call takes: a list for each number of an item

pub record Lists : Type 0 where
  pub base : List Float
  pub minimum : List Float
  pub maximum : List Float
  -- 0 absent, 1 given
  pub has_maximum : List ℕ
  -- padding plus border
  pub edges : List Float
  pub grow : List Float
  pub shrink : List Float
  pub start : List Float
  pub end : List Float
  -- 0 given, 1 auto
  pub auto_start : List ℕ
  pub auto_end : List ℕ

abbrev pub lists : List Float → List Float → List Float → List ℕ → List Float → List Float → List Float → List Float
    → List Float → List ℕ → List ℕ → Lists
lists b l h k e g s x y u v = record {
  base = b;
  minimum = l;
  maximum = h;
  has_maximum = k;
  edges = e;
  grow = g;
  shrink = s;
  start = x;
  end = y;
  auto_start = u;
  auto_end = v;
}

-- the lists of a bundle
abbrev pub lists_of : ItemLists → Lists
lists_of l = lists l.base.now l.minimum.now l.maximum.now l.has_maximum.now l.edges.now l.grow.now l.shrink.now
    l.start.now l.end.now l.auto_start.now l.auto_end.now

abbrev pub count : Lists → ℕ
count ls = length ls.base

-- ---- how it is read: "-0.0 reads as 0", an auto margin as 0, and an absent maximum as infinite

abbrev pub read : List Float → ℕ → Float
read xs i = cleaned (get_or xs i nan)

-- the number where its code is `taken`, and else another
abbrev pub read_where : List Float → List ℕ → ℕ → Float → ℕ → Float
read_where xs codes taken other i = cond (eqb (get_or codes i 0) taken) (read xs i) other

abbrev pub item_at : Lists → ℕ → Item
item_at ls i = record {
  base = read ls.base i;
  minimum = read ls.minimum i;
  maximum = read_where ls.maximum ls.has_maximum 1 (inf false) i;
  edges = read ls.edges i;
  grow = read ls.grow i;
  shrink = read ls.shrink i;
  start = read_where ls.start ls.auto_start 0 nought i;
  end = read_where ls.end ls.auto_end 0 nought i;
}

abbrev pub items_of : Lists → List Item
items_of ls = each (count ls) (item_at ls)
