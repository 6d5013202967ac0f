-- The worked examples, by computing the definitions. Assumes nothing.
use mathlib.Core.Path.{◌≡◌, refl}
use mathlib.Core.List.{List}
use Prim.Native.Nat.{ℕ, zero, suc, ◌<◌}
use native.Mathlib.Omega.{arith}
use lib.Dec.{T, ltb, ltb→lt}
use lib.Ieee.{of_int, of_bits, add, sub, neg, mul, div, lt, le, eq}
use Rattle.lists.specs.Cells.{each}
use Rattle.grid.specs.Grid.{on_grid, sixty_fourths, within, cleaned}
use Rattle.grid.specs.Floats.{gaps}
use Rattle.keywords.specs.Alignment.{content_of, self_of}
use Rattle.checks.specs.Domain.{in_range, not_finite, off_grid, out_of_range, any, first, check}
use Rattle.flex.specs.declared.Line.{Line}
use Rattle.flex.specs.Flex.{Cell, Runs, sum_from, clamp, sum_units, inflexible, left, limited, share, flexed, violation, freezes, settle, round, after, unfrozen}
use Rattle.place_align.specs.Align.{fallback, made_safe, positioned, first_offset, later_offset, self_offset}
use Rattle.place_align.specs.Sums.{total_up_to}
use Rattle.place_align.specs.Axis.{margin, autos, stepped, offsets}
use Rattle.place_main.specs.MainAxis.{main_outer, free_space, auto_count, auto_share, justified}
use Rattle.place_main.specs.MainCall.{main_verdict}
use Rattle.place_size.specs.Container.{bounded}
use Rattle.place_size.specs.CrossSize.{cross_clamp, margins, line_cross_size}
use Rattle.place_cross.specs.CrossAxis.{is_stretched, used_size, free_cross, auto_margin, start_margin, end_margin, cross_offset, placed_item}
use Rattle.examples.specs.Table.{px, none, flexible, table}
use Rattle.worked.specs.Worked.{minus, minus_zero, quarter, Worked}

-- one round: an item is unfrozen before it, and none after it
one_round : (ln : Line) (cells : List Cell) → T (ltb 0 (unfrozen (after ln 0 cells))) → unfrozen (after ln 1 cells) ≡ 0 → Runs ln cells 1
one_round ln cells h over = record { needed = needed; over = over }
  where
    needed : (k : ℕ) → k < 1 → 0 < unfrozen (after ln k cells)
    needed zero l = ltb→lt 0 (unfrozen (after ln 0 cells)) h
    needed (suc k) l = absurd (omega arith)

pub worked_holds : Worked
unfolding table px none flexible minus minus_zero quarter on_grid sixty_fourths within cleaned gaps in_range not_finite off_grid out_of_range any first check content_of self_of sum_from clamp sum_units inflexible left limited share flexed violation freezes settle round after each margin autos stepped offsets total_up_to fallback made_safe positioned first_offset later_offset self_offset main_outer free_space auto_count auto_share justified main_verdict bounded cross_clamp margins line_cross_size is_stretched used_size free_cross auto_margin start_margin end_margin cross_offset placed_item of_int of_bits add sub neg mul div lt le eq
worked_holds = record {
  table_counted = refl;
  minimum_above_maximum = refl;
  not_lowered = refl;
  maximum_for_min_content = refl;
  minimum_alone = refl;
  column = refl;
  zero_limit = refl;
  grows_by_a_quarter = record { space = refl; number = one_round _ _ tt refl; few = omega arith; cells = refl };
  shrinks_by_a_quarter = record { space = refl; number = one_round _ _ tt refl; few = omega arith; cells = refl };
  auto_margins_take_all = refl;
  auto_margins_overfull = refl;
  safe_overfull = refl;
  reversed_overfull = refl;
  unknown_code = refl;
  minimum_wins = refl;
  padding_wins = refl;
  given_clamped = refl;
  single_line_clamped = refl;
  wrapping_not_clamped = refl;
  center_overflows = refl;
  flex_start_exchanged = refl;
  safe_is_start = refl;
  stretched_to_maximum = refl;
  given_size_kept = refl;
  limit_kinds = refl;
  wrap_modes = refl;
  modes = refl;
  content_keywords = refl;
  self_keywords = refl;
}
