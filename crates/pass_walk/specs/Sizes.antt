-- Document 01, "Cross axis", line by line: each line's size from its own items. Assumes nothing.
use Rattle.std.specs.Prelude.{List, ℕ, length, Float}
use Rattle.place_size.specs.declared.container.Cross.{Cross}
use Rattle.lists.specs.Cells.{overwritten}
use Rattle.place_size.specs.CrossSize.{CrossLists, cross_lists, cross_line_size}
use Rattle.lists.specs.ByLine.{part}

-- the items of line j
abbrev pub cross_line : List ℕ → ℕ → CrossLists → CrossLists
cross_line counts j ls =
    cross_lists (part counts j ls.measured) (part counts j ls.minimum) (part counts j ls.maximum)
    (part counts j ls.capped) (part counts j ls.edges) (part counts j ls.start) (part counts j ls.end)
    (part counts j ls.auto_start) (part counts j ls.auto_end)

-- a list by line: the cells past the last line are as they were
abbrev pub cross_sizes : Cross → List ℕ → CrossLists → List Float → List Float
cross_sizes c counts ls sizes₀ = overwritten (length counts) (λ j. cross_line_size c (cross_line counts j ls)) sizes₀
