-- `checks_list::whole::mark_beside` meets its contract: the code of each item, and the number beside it. Assumes nothing.
use mathlib.Core.Path.{sym, ap, ap₂, ◌∙◌}
use Prim.Native.Nat.{◌+◌, min}
use lib.Dec.{eqb}
use lib.ListN.{length, get_or}
use lib.Ieee.{nan}
use Rattle.checks.specs.Domain.{float, code}
use Rattle.checks.specs.Optional.{optional}
use Rattle.checks.specs.Marks.{mark, least_up_to}
use Rattle.checks.proofs.Marked.{items_more}
use Rattle.checks_list.proofs.whole.mark_beside.Goals as goal

pub returns : goal.returns
returns c =
    let xs = c.args.xs.now in
    let codes = c.args.codes.now in
    c.least.ensures
    ∙ ap₂ min (c.mark_codes.ensures ∙ ap (least_up_to (λ i. mark (code 1 (get_or codes i 0)) (i + 1))) c.requires.1) c.mark_floats_where.ensures
    ∙ sym (items_more (λ i. code 1 (get_or codes i 0)) (λ i. optional (eqb (get_or codes i 0) c.args.taken) (float c.args.kind (get_or xs i nan))) (length xs))
