-- The promises of the checks, filled. Assumes nothing.
use Rattle.checks.proofs.Checks.{judged-checked, accepted}
use Rattle.promises.specs.Checks.{Promised}

pub promised : Promised
promised = record {
  judged-checked = judged-checked;
  accepted = accepted;
}
