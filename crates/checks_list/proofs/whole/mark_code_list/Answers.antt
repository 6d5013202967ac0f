-- `checks_list::whole::mark_code_list` meets its contract: one number of each item. Assumes nothing.
use mathlib.Core.Path.{◌∙◌}
use Prim.Native.Nat.{ℕ}
use lib.ListN.{length, get_or}
use Rattle.checks.specs.Domain.{code}
use Rattle.checks.proofs.Marked.{items_one}
use Rattle.checks_list.proofs.whole.mark_code_list.Goals as goal

pub returns : goal.returns
returns c = c.mark_codes.ensures ∙ items_one (λ (i : ℕ). code c.args.most (get_or c.args.codes.now i 0)) (length c.args.codes.now) c.requires
