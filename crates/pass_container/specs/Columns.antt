-- The items of the pass in plain lists: lists of n cells one after another, list k from cell k·n on. Assumes nothing.
use Rattle.std.specs.Prelude.{List, ℕ, ◌*◌, take, drop, replicate, Float}
use Rattle.flex.specs.Items.{Lists, lists}
use Rattle.grid.specs.Floats.{nought}
use Rattle.place_main.specs.MainAxis.{LineLists, line_lists}
use Rattle.place_size.specs.CrossSize.{CrossLists, cross_lists}

-- list k of those lists
unfoldable pub column : {A : Type 0} → ℕ → ℕ → List A → List A
column n k l = take n (drop (k * n) l)

-- n cells of 0.0, over which what is answered is put
abbrev pub zeros : ℕ → List Float
zeros n = replicate n nought

-- ---- fourteen lists of numbers, and eight of codes

-- the main axis: base, minimum, maximum (with the code that there is one), edges, grow, shrink, start and end margin
-- (with the codes of auto ones)
abbrev pub main_lists : ℕ → List Float → List ℕ → Lists
main_lists n x c =
    lists (column n 0 x) (column n 1 x) (column n 2 x) (column n 0 c) (column n 3 x) (column n 4 x) (column n 5 x)
    (column n 6 x) (column n 7 x) (column n 1 c) (column n 2 c)

-- the same axis once the targets are worked out: targets, start and end margin
abbrev pub main_items : ℕ → List Float → List ℕ → List Float → LineLists
main_items n x c targets = line_lists targets (column n 6 x) (column n 7 x) (column n 1 c) (column n 2 c)

-- the cross axis: measured size, minimum, maximum (with the code that there is one), edges, start and end margin (with
-- the codes of auto ones)
abbrev pub cross_items : ℕ → List Float → List ℕ → CrossLists
cross_items n x c =
    cross_lists (column n 8 x) (column n 9 x) (column n 10 x) (column n 3 c) (column n 11 x) (column n 12 x)
    (column n 13 x) (column n 4 c) (column n 5 c)

-- and the codes of `align-self` and of an auto cross size
abbrev pub align_self : ℕ → List ℕ → List ℕ
align_self n c = column n 6 c

abbrev pub auto_size : ℕ → List ℕ → List ℕ
auto_size n c = column n 7 c
