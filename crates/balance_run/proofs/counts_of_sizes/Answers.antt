-- `balance_run::counts_of_sizes` meets its contract: the sums are those of the sizes (RunLaws.antt).
use Rattle.std.proofs.Common.{length, ◌∙◌}
use Rattle.lists.proofs.Filling.{fill_rest}
use Rattle.balance_run.proofs.RunLaws.{run_out}
use Rattle.balance_run.proofs.counts_of_sizes.Goals as goal

pub returns : goal.returns
returns c =
    let a = c.args in
    let q = c.requires.room in
    let au = c.add_up in
    let ba = c.line_item_counts-lines in
    let cl = c.clear in
    run_out a.sizes.now a.gap.0 a.limit au.new.sums a.minimum ba.result ba.new.counts cl.new.cells au.ensures (au.auto.sums ∙ q.0) (ba.auto.counts ∙ q.7) (cl.ensures ∙ fill_rest 0 ba.result (length a.sizes.now) ba.new.counts (ba.auto.counts ∙ q.7)) ba.ensures
