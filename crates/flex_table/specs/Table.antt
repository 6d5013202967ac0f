-- A call's items in one table. Only contracts of parts cite it. Assumes nothing.
use Rattle.std.specs.Prelude.{◌≡◌, List, ℕ, ◌+◌, ◌≤◌, ◌<◌, length, get_or}
use Rattle.std.specs.Float.{nan}
use Rattle.lists.specs.Cells.{each}
use Rattle.flex.specs.declared.Item.{Item}
use Rattle.flex.specs.Items.{Lists, count, item_at}
use Rattle.flex.specs.Accepted.{Measured}

-- what stands for an item past the end of a table
abbrev pub no_item : Item
no_item = record {
  base = nan;
  minimum = nan;
  maximum = nan;
  edges = nan;
  grow = nan;
  shrink = nan;
  start = nan;
  end = nan;
}

-- item i
abbrev pub item_in : List Item → ℕ → Item
item_in t i = get_or t i no_item

-- it has room for n items, of which there are at most 1,024
-- (a clause, and no type: the table is a frame's, of which the first n items are read)
abbrev pub Wide : List Item → ℕ → Type 0
Wide t n = (n ≤ 1024) × (n ≤ length t)

-- the items of a line: n of them, the first at `from`
abbrev pub items_in : List Item → ℕ → ℕ → List Item
items_in t from n = each n (λ i. item_in t (from + i))

-- the n items of the table are measured
abbrev pub Tabled : List Item → ℕ → Type 0
Tabled t n = (i : ℕ) → i < n → Measured (item_in t i)

-- the table holds the items of the lists of a call
abbrev pub Held : Lists → List Item → Type 0
Held ls t = (i : ℕ) → i < count ls → item_in t i ≡ item_at ls i

-- the items past the first n are as they were
abbrev pub Kept : ℕ → List Item → List Item → Type 0
Kept n old new = (k : ℕ) → n ≤ k → item_in new k ≡ item_in old k
