-- Document 01, "Records for the program": the records of a capture, one by one. A byte is a number below 256. Assumes
-- nothing.
use Rattle.std.specs.Prelude.{Bool, true, false, List, ℕ, ◌+◌, ◌*◌, eqb, leb, length, get_or, Float}
use Rattle.std.specs.Float.{binary32}
use Rattle.std.specs.Float.Ieee.{of_bits}
use Rattle.keywords.specs.Space.{space_of}
use Rattle.capture_format.specs.declared.Head.{Head}
use Rattle.capture_format.specs.declared.Parsed.{Parsed}
use Rattle.capture_format.specs.declared.Parsed.TheVariants as parsed

-- "Little-endian": the number of two bytes, and of four, from a place of the list
abbrev pub half_at : List ℕ → ℕ → ℕ
half_at bytes i = get_or bytes i 0 + 256 * get_or bytes (i + 1) 0

abbrev pub word : List ℕ → ℕ → ℕ
word bytes i = half_at bytes i + 65536 * half_at bytes (i + 2)

-- the float of four bytes: every NaN reads as the one NaN
abbrev pub float_at : List ℕ → ℕ → Float
float_at bytes i = of_bits binary32 (word bytes i)

-- "Kind 1, 11 bytes: limit kind .., limit f32, gap f32, minimum u16". `space_of` is "limit kind (0 definite, 1 min, 2
-- max)", and "The limit field is read only under kind 0"
abbrev pub head_of : List ℕ → Head
head_of bytes = record {
  limit = space_of (get_or bytes 1 0) (float_at bytes 2);
  gap = float_at bytes 6;
  minimum = half_at bytes 10;
}

abbrev pub pick : Bool → Parsed → Parsed → Parsed
pick true a b = a
pick false a b = b

abbrev pub kind : List ℕ → ℕ
kind bytes = get_or bytes 0 0

-- what the bytes begin with, where one record of kind 1 is due
unfoldable pub first_front : List ℕ → Parsed
first_front bytes =
    pick (eqb (kind bytes) 1)
    (pick (leb (get_or bytes 1 0) 2) (pick (leb 12 (length bytes)) (parsed.Head (head_of bytes)) parsed.Partial)
    parsed.Broken)
    parsed.Broken

-- the same, where an item or the end is due: "Kind 2, 4 bytes: size f32. Kind 3: end."
unfoldable pub later_front : List ℕ → Parsed
later_front bytes =
    pick (eqb (kind bytes) 2)
    (pick (leb 5 (length bytes)) (parsed.Item (float_at bytes 1)) parsed.Partial)
    (pick (eqb (kind bytes) 3) parsed.End parsed.Broken)
