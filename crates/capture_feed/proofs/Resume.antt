-- From any byte on, a sound reader goes on to say what the whole capture says: what is still to come of `reading` is a function of the
-- reader and the bytes that follow, and a step leaves it as it is. So bursts make no difference. Assumes nothing.
use mathlib.Core.Path.{◌≡◌, refl, sym, ◌∙◌, ap}
use mathlib.Core.Bool.{cond}
use mathlib.Core.Logic.{◌⊎◌, inl, inr}
use mathlib.Core.List.{List, [], ◌∷◌, ◌++◌, append_assoc}
use Prim.Native.Nat.{ℕ, suc, ◌+◌, ◌<◌, ◌≤◌}
use native.Mathlib.Omega.{arith}
use lib.ListN.{length, take, drop, set, length-append}
use lib.Seq.{drop_at, take-suc-set, take-append-le, take_all}
use native.Mathlib.Numerals.{add-one}
use lib.Dec.{ltb}
use native.Mathlib.Decide.{dec_le}
use borrow.Author.Tests.{lt-ltb, le-ltb}
use lib.Ieee.{Float}
use Rattle.capture_format.specs.Format.{first_front, later_front, float_at}
use Rattle.capture_format.specs.Parts.{front}
use Rattle.capture_format.specs.Reading.{Rest, sizes, faulty, more, ending, item_records}
use Rattle.capture_format.specs.declared.Head.{Head}
use Rattle.capture_format.specs.declared.Stage.{Stage}
use Rattle.capture_format.specs.declared.Stage.TheVariants as stage
use Rattle.capture_format.specs.declared.Parsed.{Parsed}
use Rattle.capture_format.specs.declared.Parsed.TheVariants.{Item, End, Partial, Broken}
use Rattle.capture_format.specs.declared.Parsed.TheVariants as parsed
use Rattle.capture_format.proofs.Front as f
use Rattle.capture_format.proofs.Items.{items_by}
use Rattle.capture_feed.specs.Machine.{Fed, with_sizes, advanced, kept, byte_fed, fed, SoundReader, ReaderReady}
use Rattle.capture_feed.specs.declared.Reader.{Reader}
use Rattle.capture_feed.proofs.Sound.{next_bytes, step_ready, step_room}

-- what is kept of a capture: its head, how many items it has, and the first 64 sizes
pub data Known : Type 0 where
  known : Head → ℕ → List Float → Known
  broken : ℕ → Known

abbrev pub joined : Head → ℕ → List Float → Rest → Known
joined h n kept (sizes xs) = known h (n + length xs) (take 64 (kept ++ xs))
joined h n kept (faulty place) = broken place

abbrev pub firstly : Parsed → ℕ → ℕ → List Float → Rest → Known
firstly (parsed.Head h) place n kept rest = joined h n kept rest
firstly Partial place n kept rest = broken place
firstly Broken place n kept rest = broken place
firstly (Item x) place n kept rest = broken place
firstly End place n kept rest = broken place

-- what a reader will know that stands at `place`, with these bytes from there on, and n items before them
unfoldable pub coming : Stage → ℕ → List ℕ → Head → ℕ → List Float → Known
coming stage.First place l h n kept = firstly (first_front l) place n kept (item_records (place + 12) (drop 12 l))
coming stage.Items place l h n kept = joined h n kept (item_records place l)
coming stage.Ended place l h n kept = joined h n kept (ending place l)
coming stage.Broken place l h n kept = broken place

-- the same after a byte that made l of the record's bytes
abbrev pub after : Parsed → Stage → ℕ → List ℕ → List ℕ → Head → ℕ → List Float → Known
after Partial s place l rest h n room = coming s place (l ++ rest) h n (take n room)
after Broken s place l rest h n room = coming stage.Broken place rest h n (take n room)
after (parsed.Head g) s place l rest h n room = coming stage.Items (place + 12) rest g n (take n room)
after (Item x) s place l rest h n room = coming stage.Items (place + 5) rest h (n + 1) (take (n + 1) (cond (ltb n 64) (set room n x) room))
after End s place l rest h n room = coming stage.Ended (place + 1) rest h n (take n room)

-- ---- one item more

take_more : (n : ℕ) (x : Float) (room xs : List Float) → length room ≡ 64
    → take 64 (take (n + 1) (cond (ltb n 64) (set room n x) room) ++ xs) ≡ take 64 (take n room ++ (x ∷ xs))
take_more n x room xs e = go (dec_le 64 n)
  where
    few : n < 64 → take (n + 1) (cond (ltb n 64) (set room n x) room) ≡ take n room ++ (x ∷ [])
    few h = rw (lt-ltb _ _ h, add-one) (take-suc-set room n x (omega arith))

    go : Dec (64 ≤ n) → take 64 (take (n + 1) (cond (ltb n 64) (set room n x) room) ++ xs) ≡ take 64 (take n room ++ (x ∷ xs))
    go (no h) = rw (few (omega arith), append_assoc)
    go (yes h) =
        rw (le-ltb _ _ h, take_all (n + 1) room (omega arith), take_all n room (omega arith))
        (take-append-le 64 room xs (omega arith) ∙ sym (take-append-le 64 room (x ∷ xs) (omega arith)))

join_more : (h : Head) (n : ℕ) (x : Float) (room : List Float) (t : Rest) → length room ≡ 64
    → joined h (n + 1) (take (n + 1) (cond (ltb n 64) (set room n x) room)) t ≡ joined h n (take n room) (more x t)
join_more h n x room (sizes xs) e =
    let c : n + 1 + length xs ≡ n + suc (length xs) = omega arith in
    ap (λ (k : ℕ). known h k (take 64 (take (n + 1) (cond (ltb n 64) (set room n x) room) ++ xs))) c
    ∙ ap (known h (n + suc (length xs))) (take_more n x room xs e)
join_more h n x room (faulty place) e = refl

-- ---- one byte more

module _ (place : ℕ) (q rest : List ℕ) (h : Head) (n : ℕ) (room : List Float) (some : 0 < length q) where
  on_first : length q ≤ 12 → after (first_front q) stage.First place q rest h n room ≡ coming stage.First place (q ++ rest) h n (take n room)
  unfolding coming
  on_first short = go (f.first_cases q)
    where
      go : f.First q → after (first_front q) stage.First place q rest h n room ≡ coming stage.First place (q ++ rest) h n (take n room)
      go (f.First.other k) = rw (f.first_other q k, f.first_still_other q rest some k)
      go (f.First.bad k b) = rw (f.first_bad q k b, f.first_still_bad q rest k b)
      go (f.First.cut k b m) = rw (f.first_cut q k b m)
      go (f.First.whole k b m) =
          rw (f.first_head q k b m, f.first_still_head q rest k b m, drop_at q rest 12 (omega arith))

  on_items : length q ≤ 5 → (later_front q ≡ End → length q ≡ 1) → length room ≡ 64
      → after (later_front q) stage.Items place q rest h n room ≡ coming stage.Items place (q ++ rest) h n (take n room)
  unfolding coming
  on_items short ends full = go (f.later_cases q)
    where
      go : f.Later q → after (later_front q) stage.Items place q rest h n room ≡ coming stage.Items place (q ++ rest) h n (take n room)
      go (f.Later.other k m) = rw (items_by place (q ++ rest), f.later_other q k m, f.later_still_other q rest some k m)
      go (f.Later.cut k m) = rw (f.later_cut q k m)
      go (f.Later.item k m) =
          rw (items_by place (q ++ rest), f.later_item q k m, f.later_still_item q rest k m, drop_at q rest 5 (omega arith))
          (join_more h n (float_at q 1) room (item_records (place + 5) rest) full)
      go (f.Later.end k) =
          rw (items_by place (q ++ rest), f.later_end q k, f.later_still_end q rest k, drop_at q rest 1 (ends (f.later_end q k)))

  on_ended : coming stage.Broken place rest h n (take n room) ≡ coming stage.Ended place (q ++ rest) h n (take n room)
  unfolding coming ending
  on_ended = go q some
    where
      go : (l : List ℕ) → 0 < length l → broken place ≡ joined h n (take n room) (ending place (l ++ rest))
      go [] z = absurd (omega arith)
      go (b ∷ l) z = refl

  on_broken : coming stage.Broken place rest h n (take n room) ≡ coming stage.Broken place (q ++ rest) h n (take n room)
  unfolding coming
  on_broken = refl

-- a record's bytes so far are none, or begin it
abbrev pub Begun : Stage → List ℕ → Type 0
Begun s p = (length p ≡ 0) ⊎ (front s p ≡ Partial)

short_first : (p : List ℕ) → Begun stage.First p → length p < 12
short_first p (inl e) = omega arith
short_first p (inr e) = f.first_partial p e

short_items : (p : List ℕ) → Begun stage.Items p → length p < 5
short_items p (inl e) = omega arith
short_items p (inr e) = f.later_partial p e

-- only the first byte of a record can be the end
end_at_once : (p : List ℕ) (b : ℕ) → Begun stage.Items p → later_front (p ++ (b ∷ [])) ≡ End → length (p ++ (b ∷ [])) ≡ 1
end_at_once p b (inl e) z = simp length-append (omega arith)
end_at_once p b (inr e) z = go (f.later_cases p)
  where
    none : {o : Parsed} → later_front p ≡ o → o ≡ Partial
    none w = sym w ∙ e

    go : f.Later p → length (p ++ (b ∷ [])) ≡ 1
    go (f.Later.other k m) = let w : ◌≡◌ {A = ℕ} 0 1 = cc (none (f.later_other p k m)) in absurd (omega arith)
    go (f.Later.cut k m) = absurd (f.later_not_end (p ++ (b ∷ [])) (f.kind_still p (b ∷ []) 1 k) z)
    go (f.Later.item k m) = let w : ◌≡◌ {A = ℕ} 0 1 = cc (none (f.later_item p k m)) in absurd (omega arith)
    go (f.Later.end k) = let w : ◌≡◌ {A = ℕ} 0 1 = cc (none (f.later_end p k)) in absurd (omega arith)

longer : (p : List ℕ) (b : ℕ) → length (p ++ (b ∷ [])) ≡ length p + 1
longer p b = simp length-append

goes_on : (s : Stage) (place : ℕ) (p : List ℕ) (b : ℕ) (rest : List ℕ) (h : Head) (n : ℕ) (room : List Float)
    → length room ≡ 64 → Begun s p
    → after (front s (p ++ (b ∷ []))) s place (p ++ (b ∷ [])) rest h n room ≡ coming s place ((p ++ (b ∷ [])) ++ rest) h n (take n room)
goes_on stage.First place p b rest h n room full begun = on_first place (p ++ (b ∷ [])) rest h n room (omega (arith, longer p b)) (omega (arith, longer p b, short_first p begun))
goes_on stage.Items place p b rest h n room full begun =
    on_items place (p ++ (b ∷ [])) rest h n room (omega (arith, longer p b)) (omega (arith, longer p b, short_items p begun)) (end_at_once p b begun) full
goes_on stage.Ended place p b rest h n room full begun = on_ended place (p ++ (b ∷ [])) rest h n room (omega (arith, longer p b))
goes_on stage.Broken place p b rest h n room full begun = on_broken place (p ++ (b ∷ [])) rest h n room (omega (arith, longer p b))

-- ---- the reader

unfoldable pub resume : Fed → List ℕ → Known
unfolding coming
resume fd rest = let r = fd.reader in coming r.stage r.place (take r.have r.pending ++ rest) r.head r.items (take r.items fd.sizes)

module _ (r : Reader) (room : List Float) (bytes rest : List ℕ) where
  to_after : (o : Parsed) (q : List ℕ) → take (r.have + 1) bytes ≡ q
      → resume (with_sizes (advanced o r bytes) (kept o r.items room)) rest ≡ after o r.stage r.place q rest r.head r.items room
  unfolding resume
  to_after Partial q e = rw e
  to_after Broken q e = refl
  to_after (parsed.Head g) q e = refl
  to_after (Item x) q e = refl
  to_after End q e = refl

pub begun_of : (r : Reader) → SoundReader r → Begun r.stage (take r.have r.pending)
begun_of r s = go s.midway
  where
    go : (r.have ≡ 0) ⊎ (front r.stage (take r.have r.pending) ≡ Partial) → Begun r.stage (take r.have r.pending)
    go (inl e) = inl (rw e)
    go (inr e) = inr e

pub step_resumes : (fd : Fed) (b : ℕ) (rest : List ℕ) → SoundReader fd.reader → length fd.sizes ≡ 64 → resume (byte_fed fd b) rest ≡ resume fd (b ∷ rest)
unfolding resume
step_resumes fd b rest sound full =
    let r = fd.reader in
    let p = take r.have r.pending in
    let bytes = set r.pending r.have b in
    let e = next_bytes b sound in
    to_after r fd.sizes bytes rest (front r.stage (take (r.have + 1) bytes)) (p ++ (b ∷ [])) e
    ∙ (ap (λ (l : List ℕ). after (front r.stage l) r.stage r.place (p ++ (b ∷ [])) rest r.head r.items fd.sizes) e
    ∙ (goes_on r.stage r.place p b rest r.head r.items fd.sizes full (begun_of r sound)
    ∙ ap (λ (l : List ℕ). coming r.stage r.place l r.head r.items (take r.items fd.sizes)) (append_assoc p (b ∷ []) rest)))

pub fed_resumes : (l rest : List ℕ) (fd : Fed) → ReaderReady fd.reader (length l) → length fd.sizes ≡ 64 → resume (fed fd l) rest ≡ resume fd (l ++ rest)
unfolding fed
fed_resumes [] rest fd ready full = refl
fed_resumes (b ∷ l) rest fd ready full =
    fed_resumes l rest (byte_fed fd b) (step_ready fd b (length l) (rw add-one ready)) (step_room fd b ∙ full)
    ∙ step_resumes fd b (l ++ rest) ready.sound full
