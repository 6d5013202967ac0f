-- The cross axis in the whole pass: what its parts ask and ensure, by the definitions of the lines and of their items.
-- Only contracts of parts cite it. Assumes nothing.
use Rattle.std.specs.Prelude.{◌≡◌, List, [], ℕ, ◌*◌, ◌≤◌, ◌<◌, length, Float}
use Rattle.keywords.specs.Alignment.{content_of}
use Rattle.keywords.specs.Wrapping.{is_reversed}
use Rattle.place_cross.specs.Lines.{Aligned}
use Rattle.lists.specs.ByLine.{Division}
use Rattle.lists.specs.Cells.{Past}
use Rattle.pass_walk.specs.Sizes.{cross_sizes}
use Rattle.pass_walk_across.specs.Cross.{AcrossLines}
use Rattle.pass_container.specs.declared.Container.{Container}
use Rattle.pass_container.specs.Columns.{column, zeros, cross_items, align_self, auto_size}
use Rattle.pass_container.specs.Container.{wrap_mode, cross_axis}
use Rattle.pass_container.specs.Stages.{ItemLists}

-- what the checks and the breaking before it have shown: the items' lists, and lines that have the n items
-- (a clause, and no type: the counts are a part of a lent list that another stage wrote)
pub record CrossReady (n : ℕ) (x : List Float) (codes counts : List ℕ) : Type 0 where
  pub listed : ItemLists n x codes
  pub division : Division counts n
  pub few : length counts ≤ n

-- the lines along the cross axis, from lists of sizes and offsets to those after it
abbrev pub AlignedLines : Container → ℕ → List Float → List ℕ → List ℕ → List Float → List Float → Float → List Float
    → List Float → Type 0
AlignedLines c n x codes counts sizes₀ offsets₀ inner sizes offsets =
    Aligned (cross_axis c) (content_of c.align_content) (cross_sizes (cross_axis c) counts (cross_items n x codes) [])
    sizes₀ offsets₀ inner sizes offsets

-- in the two lists by line: "cells past the last line get 0", and those past the named ones are unchanged
pub record LinesPlaced (c : Container) (n : ℕ) (x : List Float) (codes counts : List ℕ) (inner : Float)
    (old new : List Float) : Type 0 where
  pub aligned : AlignedLines c n x codes counts (zeros n) (zeros n) inner (column n 0 new) (column n 1 new)
  pub past : Past (2 * n) old new

-- the items across their lines
abbrev pub PlacedAcross : Container → ℕ → List Float → List ℕ → List ℕ → List Float → List Float → List Float
    → List Float → List Float → List Float → List Float → List Float → List Float → Type 0
PlacedAcross c n x codes counts lines =
    AcrossLines (is_reversed (wrap_mode c)) counts lines (cross_items n x codes) (align_self n codes)
    (auto_size n codes)

-- in lists 4 to 7 by item: cross size, cross offset, used margins
pub record ItemsAcross (c : Container) (n : ℕ) (x : List Float) (codes counts : List ℕ)
    (lines old new : List Float) : Type 0 where
  pub across : PlacedAcross c n x codes counts lines (zeros n) (zeros n) (zeros n) (zeros n) (column n 4 new)
      (column n 6 new) (column n 7 new) (column n 5 new)
  pub others : (j : ℕ) → j < 4 → column n j new ≡ column n j old
  pub past : Past (8 * n) old new
