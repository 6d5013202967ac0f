-- One round: its parts, put together, are the definition's round. Assumes nothing.
use mathlib.Core.Path.{sym, ap, ◌∙◌}
use mathlib.Core.List.{map}
use lib.ListN.{length}
use Rattle.flex.specs.Steps.{settled}
use Rattle.flex_rounds.specs.Cells.{cell_at, cells_of}
use Rattle.lists.proofs.Each.{length-each}
use Rattle.flex.proofs.Round.{round_is}
use Rattle.flex_rounds.proofs.rounds.one_round.Goals as goal

pub returns : goal.returns
returns c =
    let a = c.args in
    let n = length a.items.now in
    let f = c.flex_sizes-sum in
    let r = c.settle_all.ensures in
    record {
      cells_are =
          r.cells_are
          ∙ ap (map (settled f.result)) f.ensures.rewritten.cells_are
          ∙ round_is a.ln (cells_of a.items.now a.frozen.now a.targets.now) n a.s c.share-sh.result f.result
          (sym (length-each n (cell_at a.items.now a.frozen.now a.targets.now)))
          c.requires.1 c.share-sh.ensures f.ensures.value;
      kept = λ k h. r.kept k h ∙ f.ensures.rewritten.kept k h;
    }
