-- `capture_text::Text::put_counts` meets its contract: each turn puts one count more. Assumes nothing.
use Rattle.capture_text.proofs.Puts.{counted_next}
use Rattle.capture_text.proofs.Text.put_counts.Goals as goal

pub loop-n-preserved : goal.loop-n-preserved
loop-n-preserved c = counted_next c.loop-n.invariant c.loop-n-test.true c.put_count.ensures
