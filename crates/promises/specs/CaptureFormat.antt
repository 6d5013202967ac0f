-- The theorems of captures' records that docs/PROMISES.md names. No contract cites it; proofs/CaptureFormat.antt fills
-- it. Assumes nothing.
use Rattle.std.specs.Prelude.{◌≡◌, List, ℕ, get_or, Float}
use Rattle.std.specs.Float.{binary32}
use Rattle.std.specs.Float.Ieee.{of_bits}
use Rattle.keywords.specs.declared.AvailableSpace.TheVariants.{MaxContent}
use Rattle.capture_format.specs.declared.Head.{Head}
use Rattle.capture_format.specs.Reading.{whole, reading, as_written, as_read}
use Rattle.capture_format.specs.Written.{capture_bytes, head_said, sizes_said}
use Rattle.capture_format.specs.Written.{Numbers, All, Readable, Writable}
use Rattle.capture_format.proofs.Format.{Byte, Written}

pub record Promised : Type 0 where
  -- whatever a head is taken to mean, the bytes of numbers that fit their fields, under limit kinds 0 to 2, read as
  -- these numbers, the head as it is meant
  pub complete : (meaning : Head → Head) (c : Numbers) → Readable c
      → reading meaning (capture_bytes c) ≡ whole (meaning (head_said c)) (sizes_said c)
  -- and bytes that read as a capture are those of such numbers
  pub sound : (meaning : Head → Head) (l : List ℕ) (h : Head) (xs : List Float) → All Byte l
      → reading meaning l ≡ whole h xs → Written Readable meaning l h xs
  -- a capture that a writer may produce has another limit kind than 1 in its bytes
  pub never_min : (c : Numbers) → Writable c → get_or (capture_bytes c) 1 0 ≡ 1 → ⊥
  -- and is read as what was written
  pub written_complete : (c : Numbers) → Writable c → reading as_read (capture_bytes c)
      ≡ whole (head_said c) (sizes_said c)
  -- a capture that is read, and has another limit kind than 1, is one that a writer may produce
  pub written_sound : (l : List ℕ) (h : Head) (xs : List Float) → All Byte l → (get_or l 1 0 ≡ 1 → ⊥)
      → reading as_read l ≡ whole h xs → Written Writable as_written l h xs
  -- document 02, Two: a capture with limit kind 1 is read as max-content with its gap, its sizes and the minimum
  -- 65,535, whatever limit and minimum it holds
  pub old_read : (c : Numbers) → Readable c → c.limit-kind ≡ 1 → reading as_read (capture_bytes c)
      ≡ whole (record { limit = MaxContent; gap = of_bits binary32 c.gap; minimum = 65535 }) (sizes_said c)
