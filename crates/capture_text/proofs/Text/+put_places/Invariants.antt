-- `capture_text::Text::put_places` ends: each call has a place fewer.
use Rattle.capture_text.proofs.Text.+put_places.Given as goal

abbrev pub decreases-put_places : goal.decreases-put_places
decreases-put_places l = l.places
