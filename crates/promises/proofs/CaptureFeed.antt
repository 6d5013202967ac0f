-- The promises of the reader, filled. Assumes nothing.
use mathlib.Core.Path.{◌≡◌, refl}
use mathlib.Core.List.{List, [], ◌∷◌, ◌++◌}
use Prim.Native.Nat.{ℕ}
use Rattle.capture_feed.specs.Machine.{Fed, byte_fed, fed}
use Rattle.capture_feed.proofs.Resume.{fed_resumes}
use Rattle.capture_feed.proofs.Whole.{said}
use Rattle.promises.specs.CaptureFeed.{Promised}

bursts : (fd : Fed) (l m : List ℕ) → fed (fed fd l) m ≡ fed fd (l ++ m)
unfolding fed
bursts fd [] m = refl
bursts fd (b ∷ l) m = bursts (byte_fed fd b) l m

pub promised : Promised
promised = record {
  said = said;
  fed_resumes = fed_resumes;
  bursts = bursts;
}
