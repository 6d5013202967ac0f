-- `balance_tables::pixels::add_up` meets its contract: `sum` is that of the items before item i (PixelsLaws.antt).
use Rattle.std.proofs.Common.{◌∙◌}
use Rattle.balance_tables.proofs.PixelsLaws.{add-more}
use Rattle.balance_tables.proofs.pixels.add_up.Goals as goal

pub loop-i-preserved : goal.loop-i-preserved
loop-i-preserved c =
    let l = c.loop-i in
    add-more c.loop-i-test.true (l.auto.sums ∙ c.requires.0) c.to_size.ensures l.invariant
