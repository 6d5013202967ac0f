-- `capture_text::Text::put_title` meets its contract. Assumes nothing.
use Rattle.capture_text.proofs.Puts.{put_more}
use Rattle.capture_text.proofs.Text.put_title.Goals as goal

pub returns : goal.returns
returns c = rw c.from.ensures at (put_more c.put.ensures (put_more c.put_number.ensures c.put-2.ensures))
