-- The promises of captures' records, filled. Assumes nothing.
use Rattle.capture_format.proofs.Format.{complete, sound, never_min, written_complete, written_sound, old_read}
use Rattle.promises.specs.CaptureFormat.{Promised}

pub promised : Promised
promised = record {
  complete = complete;
  sound = sound;
  never_min = never_min;
  written_complete = written_complete;
  written_sound = written_sound;
  old_read = old_read;
}
