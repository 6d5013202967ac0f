-- Document 01, "Cross axis": the lines of a container, stretched and placed along the cross axis. Assumes nothing.
use Rattle.std.specs.Prelude.{◌≡◌, Bool, true, false, cond, List, ℕ, length, get_or, Float}
use Rattle.std.specs.Float.{nan}
use Rattle.std.specs.Float.Ieee.{lt}
use Rattle.grid.specs.Grid.{cleaned}
use Rattle.keywords.specs.declared.Distribution.TheVariants.{Stretch, SpaceBetween, SpaceAround, SpaceEvenly}
use Rattle.keywords.specs.declared.ContentAlignment.{ContentAlignment}
use Rattle.keywords.specs.declared.ContentAlignment.TheVariants.{Unsafe, Safe, Spread}
use Rattle.std.specs.declared.option.Option.{Option}
use Rattle.std.specs.declared.option.Option.TheVariants.{None, Some}
use Rattle.place_size.specs.declared.container.Cross.{Cross}
use Rattle.grid.specs.Floats.{◌⊕◌, ◌⊖◌, ◌⊘◌, nought, counted, gaps}
use Rattle.lists.specs.Cells.{overwritten}
use Rattle.place_align.specs.Sums.{total_up_to}
use Rattle.place_align.specs.Axis.{offsets}
use Rattle.keywords.specs.Wrapping.{is_reversed}
use Rattle.place_size.specs.Container.{read_cross, inner_size, or_bounded}

-- "Under stretch"
abbrev pub stretches : ContentAlignment → Bool
stretches (Unsafe p) = false
stretches (Safe p) = false
stretches (Spread Stretch) = true
stretches (Spread SpaceBetween) = false
stretches (Spread SpaceAround) = false
stretches (Spread SpaceEvenly) = false

-- the first bound where it is given, "else" the second
abbrev pub else : Option Float → Option Float → Option Float
else None b = b
else (Some x) b = Some x

-- "the definite (else minimum) size"
abbrev pub stretch_target : Cross → Option Float
stretch_target c = else (inner_size c) c.minimum

-- "if lines plus gaps fall short of the .. size, each gains the rest ÷ line count", otherwise nothing
unfoldable pub gain_to : Option Float → Float → ℕ → Float
gain_to None used n = nought
gain_to (Some size) used n = cond (lt used size) ((size ⊖ used) ⊘ counted n) nought

unfoldable pub gain : Cross → ContentAlignment → Float → ℕ → Float
gain c alignment used n = cond (stretches alignment) (gain_to (stretch_target c) used n) nought

-- a line with its gain; "-0.0 reads as 0", also where the gain is 0.0
unfoldable pub grown : Float → Float → Float
grown more x = cleaned (x ⊕ more)

abbrev pub grown_at : Float → List Float → ℕ → Float
grown_at more lines i = grown more (get_or lines i nan)

-- "lines plus gaps", each line with its gain
abbrev pub lines_and_gaps : Cross → Float → List Float → Float
lines_and_gaps c more lines = total_up_to (grown_at more lines) (length lines) ⊕ gaps c.gap (length lines)

unfoldable pub line_gain : Cross → ContentAlignment → List Float → Float
line_gain c alignment lines = gain c alignment (lines_and_gaps c nought lines) (length lines)

-- "an absent inner cross size is lines plus gaps, clamped"
unfoldable pub container_size : Cross → ContentAlignment → List Float → Float
container_size c alignment lines = or_bounded c (inner_size c) (lines_and_gaps c (line_gain c alignment lines) lines)

-- "free is that size less lines, then less gaps"
unfoldable pub free_cross : Cross → ContentAlignment → List Float → Float
free_cross c alignment lines =
    container_size c alignment lines ⊖ total_up_to (grown_at (line_gain c alignment lines) lines)
    (length lines) ⊖ gaps c.gap (length lines)

-- ---- the answers of a container whose numbers are read: its inner cross size, and lent cells as the call leaves them

abbrev pub inner_cross : Cross → ContentAlignment → List Float → Float
inner_cross c alignment lines = cleaned (container_size c alignment lines)

abbrev pub line_sizes : Cross → ContentAlignment → List Float → List Float → List Float
line_sizes c alignment lines = overwritten (length lines) (grown_at (line_gain c alignment lines) lines)

-- "reversed wrapping walking from the last"
abbrev pub line_offsets : Cross → ContentAlignment → List Float → List Float → List Float
line_offsets c alignment lines = overwritten (length lines) (offsets (free_cross c alignment lines) (length lines)
    c.gap alignment (is_reversed c.wrap))

-- the lent cells after the call, beside those before it
pub record Along (c : Cross) (alignment : ContentAlignment) (lines sizes₀ offsets₀ : List Float) (inner : Float)
    (sizes offsets₁ : List Float) : Type 0 where
  pub inner_is : inner ≡ inner_cross c alignment lines
  pub sizes_are : sizes ≡ line_sizes c alignment lines sizes₀
  pub offsets_are : offsets₁ ≡ line_offsets c alignment lines offsets₀

abbrev pub Aligned : Cross → ContentAlignment → List Float → List Float → List Float → Float → List Float → List Float
    → Type 0
Aligned c = Along (read_cross c)
