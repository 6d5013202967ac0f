-- Where it ends: lines along the cross axis may be any finite sizes, and stretched they can be more than a later step takes. Two lines of 2^24
-- and -2^24 px in 262,144 px leave all of it free, each gains 131,072, and the first comes to 16,908,288. Assumes nothing.
use mathlib.Core.Path.{◌≡◌, refl}
use mathlib.Core.Bool.{true}
use mathlib.Core.List.{[], ◌∷◌}
use lib.Ieee.{of_int, of_bits, add, sub, mul, div, lt, le, eq}
use Rattle.lists.specs.Cells.{each}
use Rattle.grid.specs.Grid.{on_grid, within, cleaned}
use Rattle.grid.specs.Floats.{gaps}
use Rattle.keywords.specs.Alignment.{content_of}
use Rattle.checks.specs.Domain.{float, in_range, not_finite, off_grid, out_of_range, any, first, check}
use Rattle.checks.specs.declared.Kind.TheVariants as kind
use Rattle.place_align.specs.Align.{fallback, made_safe, positioned, first_offset, later_offset}
use Rattle.place_align.specs.Axis.{stepped, offsets}
use Rattle.place_align.specs.Sums.{total_up_to}
use Rattle.place_size.specs.Container.{read_cross, bounded}
use Rattle.place_cross.specs.Lines.{gain_to, gain, grown, line_gain, container_size, free_cross}
use Rattle.place_checks.specs.Numbers.{cross_of}
use Rattle.std.specs.declared.result.Result.TheVariants.{Ok}
use Rattle.handed_on.specs.Beyond.{px, minus, container}
use Rattle.place_lines_call.specs.LinesCall.{cross_lines_verdict, lines_result, lines_call}

-- `align-content: stretch` is code 10
pub stretched : lines_call container 10 (px 16777216 ∷ minus 16777216 ∷ []) (px 0 ∷ px 0 ∷ []) (px 0 ∷ px 0 ∷ []) ≡ lines_result (Ok (px 262144)) (px 16908288 ∷ minus 16646144 ∷ []) (px 0 ∷ px 0 ∷ [])
unfolding px minus container on_grid within cleaned gaps content_of in_range not_finite off_grid out_of_range any first check each fallback made_safe positioned first_offset later_offset stepped offsets total_up_to read_cross bounded gain_to gain grown line_gain container_size free_cross cross_of cross_lines_verdict of_int of_bits add sub mul div lt le eq
stretched = refl

pub not_taken : out_of_range (float kind.Worked (px 16908288)) ≡ true
unfolding px out_of_range in_range within of_int
not_taken = refl
