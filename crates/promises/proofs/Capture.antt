-- The promises of a capture's answer, filled. Assumes nothing.
use Rattle.capture.proofs.Unique.{one_answer}
use Rattle.capture.proofs.OldCaptures.{same_division, same_allowed, same_reply, one_a_line}
use Rattle.promises.specs.Capture.{Promised}

pub promised : Promised
promised = record {
  one_answer = one_answer;
  same_division = same_division;
  same_allowed = same_allowed;
  same_reply = same_reply;
  one_a_line = one_a_line;
}
