-- `checks_list::whole::mark_list` meets its contract: one number of each item. Assumes nothing.
use mathlib.Core.Path.{◌∙◌}
use Prim.Native.Nat.{ℕ}
use lib.ListN.{length, get_or}
use lib.Ieee.{nan}
use Rattle.checks.specs.Domain.{float}
use Rattle.checks.proofs.Marked.{items_one}
use Rattle.checks_list.proofs.whole.mark_list.Goals as goal

pub returns : goal.returns
returns c = c.mark_floats.ensures ∙ items_one (λ (i : ℕ). float c.args.kind (get_or c.args.xs.now i nan)) (length c.args.xs.now) c.requires
