-- Check 6, and the lines flexed where it passes. Assumes nothing.
use mathlib.Core.Path.{sym, ap, ◌∙◌, subst}
use mathlib.Core.List.{List}
use native.Mathlib.Omega.{arith}
use lib.ListN.{length}
use Rattle.checks.specs.Domain.{summed}
use Rattle.checks.proofs.Checks.{summed_passed}
use Rattle.flex.specs.declared.Item.{Item}
use Rattle.flex.specs.Accepted.{Measured, Every}
use Rattle.flex.specs.Flex.{outer_sum}
use Rattle.flex_table.specs.Table.{items_in}
use Rattle.flex_table.proofs.Items.{all_items, every_part}
use Rattle.flex_lines.proofs.Going.{counts_few}
use Rattle.flex_lines_call.proofs.flex_lines_read.Goals as goal

pub outer_sum-requires : goal.outer_sum-requires
outer_sum-requires c =
    let t = c.args.items.now in (
      c.requires.wide.0,
      c.requires.gap_is,
      subst (Every Measured) (all_items t)
          (every_part t 0 (length t) (length t) c.requires.tabled (omega arith)),
    )

pub flex_all-sum-requires : goal.flex_all-sum-requires
flex_all-sum-requires c =
    let a = c.args in
    record {
      divided = c.requires;
      within = summed_passed (outer_sum a.gap (items_in a.items.now 0 (length a.items.now)))
          (ap (λ (l : List Item). summed (outer_sum a.gap l)) (all_items a.items.now)
          ∙ sym (c.in_ok-check_sum.ensures ∙ ap summed c.outer_sum.ensures));
    }

pub overflow_cast-result : goal.overflow_cast-result
overflow_cast-result c =
    let a = c.args in
    let few = counts_few a.inner a.gap a.items.now _ a.counts.now a.targets.now a.free.now a.rounds.now c.requires in
    omega (arith, c.requires.wide.0, few)
