-- Document 01, "Main axis", line by line: each by its own items, as one line is. Assumes nothing.
use Rattle.std.specs.Prelude.{Bool, List, [], ℕ, ◌<◌, length, Float}
use Rattle.keywords.specs.declared.ContentAlignment.{ContentAlignment}
use Rattle.place_main.specs.MainAxis.{LineLists, line_lists, count, Spaced}
use Rattle.lists.specs.ByLine.{part}
use Rattle.lists.specs.Cells.{Past}

-- the items of line j
abbrev pub main_line : List ℕ → ℕ → LineLists → LineLists
main_line counts j l = line_lists (part counts j l.targets) (part counts j l.start) (part counts j l.end)
    (part counts j l.auto_start) (part counts j l.auto_end)

-- the lent cells after the walk, beside those before it
pub record MainLines (inner gap : Float) (justify : ContentAlignment) (reversed : Bool) (counts : List ℕ)
    (l : LineLists) (offsets₀ starts₀ ends₀ offsets starts ends : List Float) : Type 0 where
  pub spaced : (j : ℕ) → j < length counts → Spaced inner gap justify reversed (main_line counts j l) [] [] []
      (part counts j offsets) (part counts j starts) (part counts j ends)
  pub offsets_past : Past (count l) offsets₀ offsets
  pub starts_past : Past (count l) starts₀ starts
  pub ends_past : Past (count l) ends₀ ends
