-- `capture_text::Text::put_counts` meets its contract: each turn puts one count more. Assumes nothing.
use Rattle.capture_text.proofs.Puts.{Counted}
use Rattle.capture_text.proofs.Text.put_counts.Given as goal

abbrev pub invariant-loop-n : goal.invariant-loop-n
invariant-loop-n l = Counted l.counts l.initial.self l.self l.n-index
