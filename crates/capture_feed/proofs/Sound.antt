-- What a sound reader's pending bytes are: fewer than 12, so that there is a cell for one more. Assumes nothing.
use mathlib.Core.Path.{◌≡◌, refl, sym, ◌∙◌, subst}
use mathlib.Core.Logic.{◌⊎◌, inl, inr}
use mathlib.Core.List.{List, [], ◌∷◌, ◌++◌}
use Prim.Native.Nat.{ℕ, suc, ◌+◌, ◌<◌, ◌≤◌}
use native.Mathlib.Omega.{arith}
use native.Mathlib.Numerals.{add-one}
use lib.ListN.{length, take, set, length-take, length-set}
use lib.Seq.{length-take-le, take-suc-set}
use lib.Ieee.{Float}
use lib.Dec.{ltb}
use mathlib.Core.Bool.{Bool, true, false, cond}
use Rattle.capture_format.specs.Format.{first_front, later_front}
use Rattle.capture_format.specs.Parts.{front}
use Rattle.capture_feed.specs.Machine.{Fed, SoundReader, ReaderReady, advanced, kept, byte_fed, fed, with_sizes}
use Rattle.capture_feed.specs.declared.Reader.{Reader}
use Rattle.capture_format.specs.declared.Stage.{Stage}
use Rattle.capture_format.specs.declared.Stage.TheVariants.{First, Items, Ended, Broken}
use Rattle.capture_format.specs.declared.Parsed.{Parsed}
use Rattle.capture_format.specs.declared.Parsed.TheVariants.{Partial}
use Rattle.capture_format.specs.declared.Parsed.TheVariants as parsed
use Rattle.capture_format.proofs.Front.{first_partial, later_partial}
use Rattle.capture_format.proofs.Front as f

-- a record that has only begun has fewer bytes than the longest
pub begun : (s : Stage) (l : List ℕ) → front s l ≡ Partial → length l < 12
begun First l e = first_partial l e
begun Items l e = omega (arith, later_partial l e)
begun Ended l e = let z : ◌≡◌ {A = ℕ} 0 1 = cc in absurd (omega arith)
begun Broken l e = let z : ◌≡◌ {A = ℕ} 0 1 = cc in absurd (omega arith)

pub within : {r : Reader} → SoundReader r → r.have < 12
within {r} s = go s.midway
  where
    short : length (take r.have r.pending) < 12 → r.have < 12
    short h = omega (arith, length-take r.have r.pending, s.cells)

    go : (r.have ≡ 0) ⊎ (front r.stage (take r.have r.pending) ≡ Partial) → r.have < 12
    go (inl e) = omega arith
    go (inr e) = short (begun r.stage _ e)

pub next_bytes : {r : Reader} (b : ℕ) → SoundReader r → take (r.have + 1) (set r.pending r.have b) ≡ take r.have r.pending ++ (b ∷ [])
next_bytes {r} b s = rw add-one (take-suc-set r.pending r.have b (omega (arith, within s, s.cells)))

pub bytes_so_far : (r : Reader) (b : ℕ) → SoundReader r → length (take (r.have + 1) (set r.pending r.have b)) ≡ r.have + 1
bytes_so_far r b s = length-take-le _ _ (simp length-set (omega (arith, within s, s.cells)))

-- how many bytes a record has
abbrev size_of : Parsed → ℕ
size_of Partial = 0
size_of parsed.Broken = 0
size_of (parsed.Head h) = 12
size_of (parsed.Item x) = 5
size_of parsed.End = 1

sized : (s : Stage) (l : List ℕ) → 0 < length l → size_of (front s l) ≤ length l
sized First l n = go (f.first_cases l)
  where
    go : f.First l → size_of (first_front l) ≤ length l
    go (f.First.other k) = rw (f.first_other l k) (omega arith)
    go (f.First.bad k b) = rw (f.first_bad l k b) (omega arith)
    go (f.First.cut k b m) = rw (f.first_cut l k b m) (omega arith)
    go (f.First.whole k b m) = rw (f.first_head l k b m) m
sized Items l n = go (f.later_cases l)
  where
    go : f.Later l → size_of (later_front l) ≤ length l
    go (f.Later.other k m) = rw (f.later_other l k m) (omega arith)
    go (f.Later.cut k m) = rw (f.later_cut l k m) (omega arith)
    go (f.Later.item k m) = rw (f.later_item l k m) m
    go (f.Later.end k) = rw (f.later_end l k) n
sized Ended l n = omega arith
sized Broken l n = omega arith

-- a step keeps a reader sound, and takes one byte of its room
module _ (r : Reader) (n : ℕ) (bytes : List ℕ) (long : length bytes ≡ 12) (ready : ReaderReady r (n + 1)) where
  advanced_ready : (o : Parsed) → front r.stage (take (r.have + 1) bytes) ≡ o → size_of o ≤ r.have + 1 → ReaderReady (advanced o r bytes) n
  advanced_ready Partial e z =
      let c = ready.sound.counted in
      record { sound = record { cells = long; midway = inr e; counted = c }; room = omega (arith, ready.room) }
  advanced_ready parsed.Broken e z =
      let c = ready.sound.counted in
      record { sound = record { cells = long; midway = inl refl; counted = c }; room = omega (arith, ready.room) }
  advanced_ready (parsed.Head h) e z =
      record { sound = record { cells = long; midway = inl refl; counted = omega (arith, ready.sound.counted) }; room = omega (arith, ready.room) }
  advanced_ready (parsed.Item x) e z =
      record { sound = record { cells = long; midway = inl refl; counted = omega (arith, ready.sound.counted) }; room = omega (arith, ready.room) }
  advanced_ready parsed.End e z =
      record { sound = record { cells = long; midway = inl refl; counted = omega (arith, ready.sound.counted) }; room = omega (arith, ready.room) }

pub step_ready : (f : Fed) (b n : ℕ) → ReaderReady f.reader (n + 1) → ReaderReady (byte_fed f b).reader n
step_ready f b n ready =
    let r = f.reader in
    let bytes = set r.pending r.have b in
    let far = bytes_so_far r b ready.sound in
    advanced_ready r n bytes (simp length-set ready.sound.cells) ready
    (front r.stage (take (r.have + 1) bytes)) refl
    (rw (bytes_so_far r b ready.sound) at (sized r.stage (take (r.have + 1) bytes) (omega arith)))

pub kept-length : (o : Parsed) (i : ℕ) (room : List Float) → length (kept o i room) ≡ length room
kept-length Partial i room = refl
kept-length parsed.Broken i room = refl
kept-length (parsed.Head h) i room = refl
kept-length parsed.End i room = refl
kept-length (parsed.Item x) i room = go (ltb i 64)
  where
    go : (t : Bool) → length (cond t (set room i x) room) ≡ length room
    go true = length-set room i x
    go false = refl

pub step_room : (fd : Fed) (b : ℕ) → length (byte_fed fd b).sizes ≡ length fd.sizes
step_room fd b =
    let r = fd.reader in
    kept-length (front r.stage (take (r.have + 1) (set r.pending r.have b))) r.items fd.sizes

pub ready_less : {r : Reader} (m n : ℕ) → m ≤ n → ReaderReady r n → ReaderReady r m
ready_less m n h ready = record { sound = ready.sound; room = omega (arith, ready.room) }

pub fed_ready : (l : List ℕ) (n : ℕ) (fd : Fed) → ReaderReady fd.reader (length l + n) → ReaderReady (fed fd l).reader n
unfolding fed
fed_ready [] n fd ready = ready_less n (0 + n) (omega arith) ready
fed_ready (b ∷ l) n fd ready =
    fed_ready l n (byte_fed fd b)
    (step_ready fd b (length l + n) (ready_less (length l + n + 1) (suc (length l) + n) (omega arith) ready))

pub fed_room : (l : List ℕ) (fd : Fed) → length (fed fd l).sizes ≡ length fd.sizes
unfolding fed
fed_room [] fd = refl
fed_room (b ∷ l) fd = fed_room l (byte_fed fd b) ∙ step_room fd b

pub feed_ready : {r : Reader} {sizes : List Float} (fd : Fed) (l : List ℕ) (n : ℕ) → with_sizes r sizes ≡ fed fd l → ReaderReady fd.reader (length l + n) → ReaderReady r n
feed_ready fd l n e ready = subst (λ (f : Fed). ReaderReady f.reader n) (sym e) (fed_ready l n fd ready)
