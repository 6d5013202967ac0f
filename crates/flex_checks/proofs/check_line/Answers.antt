-- Checks 1 to 5: lists whose lengths pass are of one length. Assumes nothing.
use mathlib.Core.Path.{sym, ◌∙◌}
use Rattle.flex.specs.Items.{lists_of}
use Rattle.flex_checks.proofs.Accept.{even_of}
use Rattle.flex_checks.proofs.check_line.Goals as goal

pub mark_numbers-requires : goal.mark_numbers-requires
mark_numbers-requires c =
    (even_of (lists_of c.args.items) c.args.room (sym c.check_lengths.ensures ∙ c.in_ok-check_lengths.was)).0
