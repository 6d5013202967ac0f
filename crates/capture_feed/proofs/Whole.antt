-- Started, fed with a whole capture and finished, a reader says what `reading` says of its bytes, the head as it was written. Assumes nothing.
use mathlib.Core.Path.{◌≡◌, refl, sym, ◌∙◌, ap}
use mathlib.Core.Logic.{inl, inr}
use mathlib.Core.List.{List, [], ◌∷◌, append-nil}
use Prim.Native.Nat.{ℕ, ◌+◌, ◌≤◌, ◌^◌}
use native.Mathlib.Nat.{add-zero, zero-add}
use native.Mathlib.Omega.{arith}
use lib.ListN.{length, take, drop, length-take}
use lib.Seq.{take_all}
use lib.Ieee.{Float}
use Rattle.capture_format.specs.Format.{first_front, later_front}
use Rattle.capture_format.specs.Reading.{Rest, sizes, faulty, ending, item_records, Reading, whole, broken, by_head, reading, as_written}
use Rattle.capture_feed.specs.Machine.{Fed, with_sizes, fed, started, Finished, finished, by_stage, SoundReader, ReaderReady}
use Rattle.capture_format.specs.declared.Head.{Head}
use Rattle.capture_feed.specs.declared.Reader.{Reader}
use Rattle.std.specs.Prelude.{Ok, Err}
use Rattle.capture_format.specs.declared.Stage.{Stage}
use Rattle.capture_format.specs.declared.Stage.TheVariants as stage
use Rattle.capture_format.specs.declared.Parsed.{Parsed}
use Rattle.capture_format.specs.declared.Parsed.TheVariants.{Item, End, Partial, Broken}
use Rattle.capture_format.specs.declared.Parsed.TheVariants as parsed
use Rattle.capture_format.proofs.Items.{items_by}
use Rattle.capture_feed.proofs.Sound.{fed_ready, fed_room}
use Rattle.capture_feed.proofs.Resume.{Known, firstly, coming, Begun, begun_of, resume, fed_resumes}
use Rattle.capture_feed.proofs.Resume as resume

-- what is kept of what a capture says
abbrev pub known_of : Reading → Known
known_of (whole h xs) = resume.known h (length xs) (take 64 xs)
known_of (broken place) = resume.broken place

-- what a finished reader says, with the sizes in their room
abbrev pub told_by : Finished → List Float → Known
told_by (Ok said) room = resume.known said.head said.items (take said.items room)
told_by (Err at) room = resume.broken at.0

-- ---- at the start

from_start : (o : Parsed) (t : Rest) → firstly o 0 0 [] t ≡ known_of (by_head as_written o t)
from_start (parsed.Head h) (sizes xs) = ap (λ (k : ℕ). resume.known h k (take 64 xs)) (zero-add (length xs))
from_start (parsed.Head h) (faulty place) = refl
from_start Partial t = refl
from_start Broken t = refl
from_start (Item x) t = refl
from_start End t = refl

pub starts : (room : List Float) (l : List ℕ) → resume (with_sizes started room) l ≡ known_of (reading as_written l)
unfolding resume coming reading
starts room l = from_start (first_front l) (item_records 12 (drop 12 l))

pub started_sound : SoundReader started
started_sound = record { cells = refl; midway = inl refl; counted = omega arith }

-- ---- at the end

none : (p : List ℕ) → length p ≡ 0 → p ≡ []
none [] e = refl
none (b ∷ p) e = absurd (omega arith)

at_first : (place : ℕ) (p : List ℕ) (h : Head) (n : ℕ) (kept : List Float) → Begun stage.First p → coming stage.First place p h n kept ≡ resume.broken place
unfolding coming first_front
at_first place p h n kept (inl e) = rw (none p e)
at_first place p h n kept (inr e) = rw e

at_items : (place : ℕ) (p : List ℕ) (h : Head) (n : ℕ) (kept : List Float) → Begun stage.Items p → coming stage.Items place p h n kept ≡ resume.broken place
unfolding coming later_front
at_items place p h n kept (inl e) = rw (items_by place p, none p e)
at_items place p h n kept (inr e) = rw (items_by place p, e)

at_ended : (place : ℕ) (p : List ℕ) (h : Head) (n : ℕ) (room : List Float) → length room ≡ 64 → Begun stage.Ended p
    → coming stage.Ended place p h n (take n room) ≡ resume.known h n (take n room)
unfolding coming ending
at_ended place p h n room full (inl e) =
    rw (none p e, add-zero, append-nil)
    (ap (resume.known h n) (take_all 64 (take n room) (omega (arith, length-take n room))))
at_ended place p h n room full (inr e) = let z : ◌≡◌ {A = ℕ} 0 1 = cc in absurd (omega arith)

by_stage_lem : (s : Stage) (r : Reader) (p : List ℕ) (room : List Float) → length room ≡ 64 → Begun s p
    → coming s r.place p r.head r.items (take r.items room) ≡ told_by (by_stage s r) room
unfolding coming
by_stage_lem stage.First r p room full b = at_first r.place p r.head r.items (take r.items room) b
by_stage_lem stage.Items r p room full b = at_items r.place p r.head r.items (take r.items room) b
by_stage_lem stage.Ended r p room full b = at_ended r.place p r.head r.items room full b
by_stage_lem stage.Broken r p room full b = refl

pub ends : (fd : Fed) → SoundReader fd.reader → length fd.sizes ≡ 64 → resume fd [] ≡ told_by (finished fd.reader) fd.sizes
unfolding resume
ends fd sound full =
    let r = fd.reader in
    rw append-nil (by_stage_lem r.stage r (take r.have r.pending) fd.sizes full (begun_of r sound))

-- ---- the whole way

pub said : (room : List Float) (l : List ℕ) → length room ≡ 64 → length l ≤ 2 ^ 63
    → let fd = fed (with_sizes started room) l in told_by (finished fd.reader) fd.sizes ≡ known_of (reading as_written l)
said room l full long =
    let fd = with_sizes started room in
    let ready : ReaderReady started (length l + 0) = record { sound = started_sound; room = omega arith } in
    let ready' : ReaderReady started (length l) = record { sound = started_sound; room = omega arith } in
    sym (ends (fed fd l) (fed_ready l 0 fd ready).sound (fed_room l fd ∙ full))
    ∙ (fed_resumes l [] fd ready' full ∙ (rw append-nil (starts room l)))
