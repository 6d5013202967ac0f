-- A finished reader has the capture's numbers, and so its answer. Assumes nothing.
use mathlib.Core.Path.{◌≡◌, sym, ◌∙◌, ap, subst}
use mathlib.Core.Bool.{true}
use mathlib.Core.List.{List}
use Prim.Native.Nat.{ℕ, ◌≤◌, ◌^◌}
use native.Mathlib.Omega.{arith}
use native.Mathlib.Decide.{dec_le}
use borrow.Author.Tests.{lt-ltb, le-ltb}
use lib.Dec.{ltb}
use lib.ListN.{length, take}
use lib.Seq.{take_all}
use lib.Ieee.{Float}
use Rattle.std.specs.Prelude.{Ok, Err}
use Rattle.capture_format.specs.Reading.{Reading, whole, broken, reading, as_written, as_read}
use Rattle.capture_feed.specs.Machine.{Fed, with_sizes, fed, started, Finished, finished}
use Rattle.capture.specs.Answer.{capture_verdict, ByVerdict, ByCount, CaptureAnswered}
use Rattle.capture.specs.Parts.{AnsweredTo}
use Rattle.capture_format.specs.declared.Head.{Head}
use Rattle.capture_feed.specs.declared.Reader.{Reader}
use Rattle.capture_text.specs.Text.{Reply}
use Rattle.capture_format.proofs.Meaning.{meant, reading_meant}
use Rattle.capture_feed.proofs.Sound.{fed_room}
use Rattle.capture_feed.proofs.Whole.{known_of, told_by, said}

module _ (before : List ℕ) (r : Reply) (after : List ℕ) where
  transfer : (s : Finished) (room : List Float) (said : Reading) → told_by s room ≡ known_of said → AnsweredTo s room before r after → CaptureAnswered (meant as_read said) before r after
  transfer (Ok c) room (broken p) e a = let z : ◌≡◌ {A = ℕ} 0 1 = cc in absurd (omega arith)
  transfer (Err at) room (whole g xs) e a = let z : ◌≡◌ {A = ℕ} 0 1 = cc in absurd (omega arith)
  transfer (Err at) room (broken q) e a = let z : at.0 ≡ q = cc in subst (λ (k : ℕ). CaptureAnswered (broken k) before r after) z a
  transfer (Ok c) room (whole g xs) e a = go (dec_le c.items 64)
    where
      heads : c.head ≡ g
      heads = cc

      many : c.items ≡ length xs
      many = cc

      kept : take c.items room ≡ take 64 xs
      kept = cc

      go : Dec (c.items ≤ 64) → ByCount (ltb 64 (length xs)) (as_read g) xs before r after
      go (yes few) =
          let all : take c.items room ≡ xs = kept ∙ take_all 64 xs (omega (arith, many)) in
          let b : ByVerdict (capture_verdict (as_read c.head) (take c.items room)) (as_read c.head) (take c.items room) before r after = rw (le-ltb 64 c.items few) at a in
          rw (sym many, le-ltb 64 c.items few)
          (subst (λ (l : List Float). ByVerdict (capture_verdict (as_read g) l) (as_read g) l before r after) all
          (subst (λ (k : Head). ByVerdict (capture_verdict (as_read k) (take c.items room)) (as_read k) (take c.items room) before r after) heads b))
      go (no lots) =
          let b : ByCount true (as_read c.head) (take c.items room) before r after = rw (lt-ltb 64 c.items (omega arith)) at a in
          rw (sym many, lt-ltb 64 c.items (omega arith)) b

pub fed_full : {r : Reader} {sizes : List Float} (fd : Fed) (l : List ℕ) → length fd.sizes ≡ 64 → with_sizes r sizes ≡ fed fd l → length sizes ≡ 64
fed_full fd l full e = ap (λ (f : Fed). length f.sizes) e ∙ (fed_room l fd ∙ full)

pub reads : {r : Reader} {sizes : List Float} (room : List Float) (l before : List ℕ) (reply : Reply) (after : List ℕ) → length room ≡ 64 → length l ≤ 2 ^ 63
    → with_sizes r sizes ≡ fed (with_sizes started room) l → AnsweredTo (finished r) sizes before reply after → CaptureAnswered (reading as_read l) before reply after
reads {r} {sizes} room l before reply after full long e a =
    subst (λ (told : Reading). CaptureAnswered told before reply after) (sym (reading_meant as_read l))
    (transfer before reply after (finished r) sizes (reading as_written l)
    (ap (λ (f : Fed). told_by (finished f.reader) f.sizes) e ∙ said room l full long)
    a)
