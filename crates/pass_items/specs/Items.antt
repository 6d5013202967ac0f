-- The plain lists of a slice of items: fourteen columns of numbers, one after another, and eight of codes. Column k has
-- a cell for each item, so field k of item i of m stands at k · m + i. Assumes nothing.
use Rattle.std.specs.Prelude.{ℕ, List, ◌++◌, map, Float}
use Rattle.pass_items.specs.declared.Item.{Item}

-- ---- all items, column after column

abbrev pub numbers_of : List Item → List Float
numbers_of xs =
    map (λ (x : Item). x.main_base) xs ++ map (λ (x : Item). x.main_minimum) xs
    ++ map (λ (x : Item). x.main_maximum) xs ++ map (λ (x : Item). x.main_edges) xs
    ++ map (λ (x : Item). x.grow) xs ++ map (λ (x : Item). x.shrink) xs
    ++ map (λ (x : Item). x.main_start) xs ++ map (λ (x : Item). x.main_end) xs
    ++ map (λ (x : Item). x.cross_measured) xs ++ map (λ (x : Item). x.cross_minimum) xs
    ++ map (λ (x : Item). x.cross_maximum) xs ++ map (λ (x : Item). x.cross_edges) xs
    ++ map (λ (x : Item). x.cross_start) xs ++ map (λ (x : Item). x.cross_end) xs

abbrev pub codes_of : List Item → List ℕ
codes_of xs =
    map (λ (x : Item). x.has_main_maximum) xs ++ map (λ (x : Item). x.auto_main_start) xs
    ++ map (λ (x : Item). x.auto_main_end) xs
    ++ map (λ (x : Item). x.has_cross_maximum) xs ++ map (λ (x : Item). x.auto_cross_start) xs
    ++ map (λ (x : Item). x.auto_cross_end) xs
    ++ map (λ (x : Item). x.align_self) xs ++ map (λ (x : Item). x.auto_cross_size) xs
