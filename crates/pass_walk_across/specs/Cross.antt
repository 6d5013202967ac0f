-- Document 01, "Cross axis", line by line: each line's items across it. Assumes nothing.
use Rattle.std.specs.Prelude.{Bool, List, [], ℕ, ◌<◌, length, get_or, Float}
use Rattle.std.specs.Float.{nan}
use Rattle.place_size.specs.CrossSize.{CrossLists, count}
use Rattle.place_cross.specs.CrossAxis.{Across}
use Rattle.lists.specs.ByLine.{part}
use Rattle.lists.specs.Cells.{Past}
use Rattle.pass_walk.specs.Sizes.{cross_line}

-- the lent cells after the walk, beside those before it
pub record AcrossLines (reversed : Bool) (counts : List ℕ) (lines : List Float) (ls : CrossLists)
    (alignment auto-size : List ℕ) (sizes₀ starts₀ ends₀ offsets₀ sizes starts ends offsets : List Float) : Type 0 where
  pub across : (j : ℕ) → j < length counts → Across (get_or lines j nan) reversed (cross_line counts j ls)
      (part counts j alignment) (part counts j auto-size) [] [] [] [] (part counts j sizes) (part counts j starts)
      (part counts j ends) (part counts j offsets)
  pub sizes_past : Past (count ls) sizes₀ sizes
  pub starts_past : Past (count ls) starts₀ starts
  pub ends_past : Past (count ls) ends₀ ends
  pub offsets_past : Past (count ls) offsets₀ offsets
