-- Flexing a line with lent marks: its parts, put together, are the definition's steps. Assumes nothing.
use mathlib.Core.Path.{ap, ◌∙◌}
use mathlib.Core.List.{◌++◌}
use lib.ListN.{length, drop}
use lib.IntN.{pos}
use lib.Signed.{lt_z}
use Rattle.flex_rounds.proofs.Finish.{finish}
use Rattle.flex_rounds.proofs.line.flex_marked.Goals as goal

pub returns : goal.returns
returns c =
    let f = c.free_before-free in
    let r = c.run_rounds-rounds in
    finish f.ensures (c.is_growing-growing.ensures ∙ ap (lt_z (pos 0)) f.ensures) c.begin.ensures c.sum_up-s.ensures
    c.space_left.ensures r.ensures
    (ap (λ l. l ++ drop (length c.args.items.now) r.new.targets) c.tidy.ensures) c.requires.0.room
    (r.auto.targets ∙ c.begin.auto.targets)
