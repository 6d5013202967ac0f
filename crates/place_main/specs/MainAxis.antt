-- Document 01, "Main axis": the items of one line, whose targets are worked out. Assumes nothing.
use Rattle.std.specs.Prelude.{◌≡◌, Bool, cond, ◌&&◌, List, ℕ, ◌+◌, ltb, length, get_or, Float}
use Rattle.std.specs.Float.{nan}
use Rattle.std.specs.Float.Ieee.{lt}
use Rattle.grid.specs.Grid.{cleaned}
use Rattle.keywords.specs.declared.ContentAlignment.{ContentAlignment}
use Rattle.grid.specs.Floats.{◌⊕◌, ◌⊖◌, ◌⊘◌, nought, counted, gaps}
use Rattle.lists.specs.Cells.{overwritten}
use Rattle.place_align.specs.Sums.{total_up_to}
use Rattle.place_align.specs.Axis.{margin, margin_at, autos, offsets}

-- the items' targets and margins; a margin is auto where its code is not 0
pub record LineLists : Type 0 where
  pub targets : List Float
  pub start : List Float
  pub end : List Float
  pub auto_start : List ℕ
  pub auto_end : List ℕ

abbrev pub line_lists : List Float → List Float → List Float → List ℕ → List ℕ → LineLists
line_lists t s e p q = record { targets = t; start = s; end = e; auto_start = p; auto_end = q }

abbrev pub count : LineLists → ℕ
count l = length l.targets

-- "each size + (start margin + end margin), auto margins as 0"
unfoldable pub main_outer : Float → ℕ → Float → ℕ → Float → Float
main_outer target auto_start start auto_end end =
    cleaned target ⊕ (margin nought auto_start start ⊕ margin nought auto_end end)

abbrev pub outer_at : LineLists → ℕ → Float
outer_at l i = main_outer (get_or l.targets i nan) (get_or l.auto_start i 0) (get_or l.start i nan)
    (get_or l.auto_end i 0) (get_or l.end i nan)

-- "Free space is inner size less the targets' used space": the gaps, and the finished sum of the outer sizes
unfoldable pub free_space : Float → Float → LineLists → Float
free_space inner gap l = cleaned inner ⊖ (gaps (cleaned gap) (count l) ⊕ total_up_to (outer_at l) (count l))

-- "their number": the auto margins of the line, of both sides
unfoldable pub auto_count : LineLists → ℕ
auto_count l = autos l.auto_start (length l.auto_start) + autos l.auto_end (length l.auto_end)

-- "Above 0.0 with auto margins, each such margin gets free ÷ their number"; "otherwise they are 0"
unfoldable pub auto_share : Float → ℕ → Float
auto_share free n = cond (lt nought free && ltb 0 n) (free ⊘ counted n) nought

-- ".. and `justify-content` sees 0.0"
unfoldable pub justified : Float → ℕ → Float
justified free n = cond (lt nought free && ltb 0 n) nought free

-- ---- the answers: lent cells as the call leaves them

abbrev pub placed_offsets : Float → Float → ContentAlignment → Bool → LineLists → List Float → List Float
placed_offsets inner gap justify reversed l = overwritten (count l)
    (offsets (justified (free_space inner gap l) (auto_count l)) (count l) (cleaned gap) justify reversed)

-- the used margins of one side
abbrev pub used_margins : Float → Float → LineLists → List ℕ → List Float → List Float → List Float
used_margins inner gap l auto margins =
    overwritten (count l) (margin_at (auto_share (free_space inner gap l) (auto_count l)) auto margins)

-- the lent cells after the call, beside those before it
pub record Spaced (inner gap : Float) (justify : ContentAlignment) (reversed : Bool) (l : LineLists)
    (offsets₀ starts₀ ends₀ offsets₁ starts ends : List Float) : Type 0 where
  pub offsets_are : offsets₁ ≡ placed_offsets inner gap justify reversed l offsets₀
  pub starts_are : starts ≡ used_margins inner gap l l.auto_start l.start starts₀
  pub ends_are : ends ≡ used_margins inner gap l l.auto_end l.end ends₀
