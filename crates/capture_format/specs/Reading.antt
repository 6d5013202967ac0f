-- Document 01, "Records for the program": what a whole capture says, and where a broken one breaks. Document 02, Two:
-- what a head means. Assumes nothing.
use Rattle.std.specs.Prelude.{List, [], ◌∷◌, ℕ, zero, suc, ◌+◌, length, drop, Float}
use Rattle.keywords.specs.declared.AvailableSpace.{AvailableSpace}
use Rattle.keywords.specs.declared.AvailableSpace.TheVariants.{Definite, MinContent, MaxContent}
use Rattle.capture_format.specs.Format.{first_front, later_front}
use Rattle.capture_format.specs.declared.Head.{Head}
use Rattle.capture_format.specs.declared.Parsed.{Parsed}
use Rattle.capture_format.specs.declared.Parsed.TheVariants as parsed

-- what the records from an offset on say: the sizes of their items, or the offset where the faulty record starts
pub data Rest : Type 0 where
  sizes : List Float → Rest
  faulty : ℕ → Rest

abbrev pub more : Float → Rest → Rest
more size (sizes rest) = sizes (size ∷ rest)
more size (faulty place) = faulty place

-- "nothing after kind 3": the first byte after the end for more
unfoldable pub ending : ℕ → List ℕ → Rest
ending place [] = sizes []
ending place (b ∷ bytes) = faulty place

-- what the record at `place` makes of the rest: an item adds its size, the end ends; "Anything else is .. the byte
-- offset where the faulty record starts"
abbrev pub by_record : Parsed → ℕ → Rest → Rest → Rest
by_record (parsed.Item size) place next end = more size next
by_record parsed.End place next end = end
by_record parsed.Partial place next end = faulty place
by_record parsed.Broken place next end = faulty place
by_record (parsed.Head head) place next end = faulty place

-- the first records after kind 1, at most `most` of them; where none stands, the place is "the input's length for a
-- missing end"
unfoldable pub records_from : ℕ → ℕ → List ℕ → Rest
unfolding ending
records_from zero place bytes = faulty place
records_from (suc most) place bytes =
    by_record (later_front bytes) place (records_from most (place + 5) (drop 5 bytes))
    (ending (place + 1) (drop 1 bytes))

-- items, and the end: there are no more records than bytes
unfoldable pub item_records : ℕ → List ℕ → Rest
unfolding records_from
item_records place bytes = records_from (length bytes) place bytes

-- a capture's numbers, or where it breaks
pub data Reading : Type 0 where
  whole : Head → List Float → Reading
  broken : ℕ → Reading

abbrev pub under : Head → Rest → Reading
under head (sizes rest) = whole head rest
under head (faulty place) = broken place

-- a capture whose first record is kind 1 is read on under what that record means; any other breaks where that record
-- starts, at 0
abbrev pub by_head : (Head → Head) → Parsed → Rest → Reading
by_head meaning (parsed.Head head) rest = under (meaning head) rest
by_head meaning parsed.Partial rest = broken 0
by_head meaning parsed.Broken rest = broken 0
by_head meaning (parsed.Item size) rest = broken 0
by_head meaning parsed.End rest = broken 0

-- "One kind 1 first": 0 is the place of an empty input too
unfoldable pub reading : (Head → Head) → List ℕ → Reading
unfolding item_records
reading meaning bytes = by_head meaning (first_front bytes) (item_records 12 (drop 12 bytes))

-- ---- what a head means

-- document 01: just its numbers
abbrev pub as_written : Head → Head
as_written head = head

-- document 02, Two: "they are read as max-content with the minimum set to 65,535"
abbrev pub one_each : Float → Head
one_each gap = record { limit = MaxContent; gap = gap; minimum = 65535 }

-- "Captures that hold it still open": those with limit kind 1, which is min-content, are read so, and all others as
-- written
abbrev pub by_space : AvailableSpace → Head → Head
by_space MinContent head = one_each head.gap
by_space MaxContent head = head
by_space (Definite width) head = head

abbrev pub as_read : Head → Head
as_read head = by_space head.limit head
