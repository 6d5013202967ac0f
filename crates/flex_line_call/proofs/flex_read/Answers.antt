-- Check 6, and the line flexed where it passes. Assumes nothing.
use mathlib.Core.Path.{sym, ap, ◌∙◌}
use Rattle.checks.specs.Domain.{summed}
use Rattle.checks.proofs.Checks.{summed_passed}
use Rattle.flex.specs.Flex.{outer_sum}
use Rattle.flex_line_call.proofs.flex_read.Goals as goal

pub flex_items-requires : goal.flex_items-requires
flex_items-requires c =
    let a = c.args in
    let p = c.requires in (
      p.0,
      p.1,
      record {
        inner_is = p.2;
        gap_is = p.3;
        items_are = p.4;
        within = summed_passed (outer_sum a.gap a.items.now)
            (sym (c.check_sum.ensures ∙ ap summed c.outer_sum.ensures) ∙ c.in_ok-check_sum.was);
      },
    )
