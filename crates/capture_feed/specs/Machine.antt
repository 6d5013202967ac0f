-- A reader that takes a burst at a time, and how it goes on by a byte. Only contracts of parts cite it; `said` of
-- proofs/ says that it finds what the plain reading of crate capture_format finds, the head as it was written. Assumes
-- nothing.
use Rattle.std.specs.Prelude.{◌≡◌, ◌⊎◌, cond, List, [], ◌∷◌, ℕ, ◌+◌, ◌≤◌, ◌^◌, ltb, length, take, set, replicate, Float}
use Rattle.std.specs.Prelude.{Result, Ok, Err}
use Rattle.std.specs.Float.{binary32}
use Rattle.std.specs.Float.Ieee.{of_bits}
use Rattle.keywords.specs.declared.AvailableSpace.TheVariants.{MaxContent}
use Rattle.capture_format.specs.Parts.{front}
use Rattle.capture_feed.specs.declared.Reader.{Reader}
use Rattle.capture_feed.specs.declared.Captured.{Captured}
use Rattle.capture_format.specs.declared.BrokenAt.{BrokenAt}
use Rattle.capture_format.specs.declared.Head.{Head}
use Rattle.capture_format.specs.declared.Stage.{Stage}
use Rattle.capture_format.specs.declared.Stage.TheVariants.{Items, Ended}
use Rattle.capture_format.specs.declared.Stage.TheVariants as stage
use Rattle.capture_format.specs.declared.Parsed.{Parsed}
use Rattle.capture_format.specs.declared.Parsed.TheVariants.{Partial, Item, End}
use Rattle.capture_format.specs.declared.Parsed.TheVariants as parsed

-- a reader, and the room for the sizes that it has read
pub record Fed : Type 0 where
  pub reader : Reader
  pub sizes : List Float

abbrev pub with_sizes : Reader → List Float → Fed
with_sizes r sizes = record { reader = r; sizes = sizes }

-- the record that the bytes so far make, or their beginning, puts the reader here
abbrev pub advanced : Parsed → Reader → List ℕ → Reader
advanced Partial r bytes = record {
  stage = r.stage;
  place = r.place;
  have = r.have + 1;
  pending = bytes;
  head = r.head;
  items = r.items;
}
advanced parsed.Broken r bytes = record {
  stage = stage.Broken;
  place = r.place;
  have = 0;
  pending = bytes;
  head = r.head;
  items = r.items;
}
advanced (parsed.Head h) r bytes = record {
  stage = Items;
  place = r.place + 12;
  have = 0;
  pending = bytes;
  head = h;
  items = r.items;
}
advanced (Item x) r bytes = record {
  stage = Items;
  place = r.place + 5;
  have = 0;
  pending = bytes;
  head = r.head;
  items = r.items + 1;
}
advanced End r bytes = record {
  stage = Ended;
  place = r.place + 1;
  have = 0;
  pending = bytes;
  head = r.head;
  items = r.items;
}

-- the sizes of the first 64 items are kept
abbrev pub kept : Parsed → ℕ → List Float → List Float
kept (Item x) i sizes = cond (ltb i 64) (set sizes i x) sizes
kept Partial i sizes = sizes
kept parsed.Broken i sizes = sizes
kept (parsed.Head h) i sizes = sizes
kept End i sizes = sizes

abbrev pub byte_fed : Fed → ℕ → Fed
byte_fed f b =
    let r = f.reader in
    let bytes = set r.pending r.have b in
    let found = front r.stage (take (r.have + 1) bytes) in
    with_sizes (advanced found r bytes) (kept found r.items f.sizes)

unfoldable pub fed : Fed → List ℕ → Fed
fed f [] = f
fed f (b ∷ bytes) = fed (byte_fed f b) bytes

-- before the first byte
abbrev pub started : Reader
started = record {
  stage = stage.First;
  place = 0;
  have = 0;
  pending = replicate 12 0;
  head = record { limit = MaxContent; gap = of_bits binary32 0; minimum = 0 };
  items = 0;
}

-- after the last: a whole capture's head and how many items it has, or where it breaks
abbrev pub Finished : Type 0
Finished = Result Captured BrokenAt

abbrev pub whole_of : Head → ℕ → Finished
whole_of head items = Ok (record { head = head; items = items })

abbrev pub broken_at : ℕ → Finished
broken_at place = Err (record { 0 = place })

abbrev pub by_stage : Stage → Reader → Finished
by_stage Ended r = whole_of r.head r.items
by_stage stage.First r = broken_at r.place
by_stage Items r = broken_at r.place
by_stage stage.Broken r = broken_at r.place

abbrev pub finished : Reader → Finished
finished r = by_stage r.stage r

-- what holds of every reader that comes from `start` and `feed`: between records, or within one that its bytes so far
-- begin
pub record SoundReader (r : Reader) : Type 0 where
  pub cells : length r.pending ≡ 12
  pub midway : (r.have ≡ 0) ⊎ (front r.stage (take r.have r.pending) ≡ Partial)
  pub counted : r.items ≤ r.place

-- a sound reader that can take n bytes more without losing count
pub record ReaderReady (r : Reader) (n : ℕ) : Type 0 where
  pub sound : SoundReader r
  pub room : r.place + (r.have + n) ≤ 2 ^ 63
