-- What a head means touches a whole capture's head alone: so whoever has a capture as it was written has it under any meaning. Assumes nothing.
use mathlib.Core.Path.{◌≡◌, refl}
use mathlib.Core.List.{List}
use Prim.Native.Nat.{ℕ}
use lib.ListN.{drop}
use Rattle.capture_format.specs.Format.{first_front}
use Rattle.capture_format.specs.Reading.{Rest, sizes, faulty, item_records, Reading, whole, broken, by_head, reading, as_written}
use Rattle.capture_format.specs.declared.Head.{Head}
use Rattle.capture_format.specs.declared.Parsed.{Parsed}
use Rattle.capture_format.specs.declared.Parsed.TheVariants as parsed

abbrev pub meant : (Head → Head) → Reading → Reading
meant meaning (whole head xs) = whole (meaning head) xs
meant meaning (broken place) = broken place

by_head_lem : (meaning : Head → Head) (o : Parsed) (t : Rest) → by_head meaning o t ≡ meant meaning (by_head as_written o t)
by_head_lem meaning (parsed.Head head) (sizes xs) = refl
by_head_lem meaning (parsed.Head head) (faulty place) = refl
by_head_lem meaning parsed.Partial t = refl
by_head_lem meaning parsed.Broken t = refl
by_head_lem meaning (parsed.Item size) t = refl
by_head_lem meaning parsed.End t = refl

pub reading_meant : (meaning : Head → Head) (l : List ℕ) → reading meaning l ≡ meant meaning (reading as_written l)
unfolding reading
reading_meant meaning l = by_head_lem meaning (first_front l) (item_records 12 (drop 12 l))
