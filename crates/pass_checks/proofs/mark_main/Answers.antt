-- The lists are the columns of the main axis. Assumes nothing.
use Rattle.std.proofs.Common.{sym, ap, subst, ◌∙◌}
use Rattle.checks.specs.Marks.{least_mark}
use Rattle.flex.specs.Items.{Lists}
use Rattle.flex.specs.Accepted.{Even}
use Rattle.flex_checks.specs.Input.{input_of}
use Rattle.pass_checks.proofs.Taken.{even_main, of_items}
use Rattle.pass_checks.proofs.mark_main.Goals as goal

pub mark_numbers-requires : goal.mark_numbers-requires
mark_numbers-requires c = subst Even (sym c.main.ensures) (even_main (of_items c.args.items))

pub returns : goal.returns
returns c = let a = c.args in c.mark_numbers.ensures ∙ ap (λ (ls : Lists). least_mark (input_of a.inner a.gap ls)) c.main.ensures
