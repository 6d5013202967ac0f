-- P14 of document 01, and a line of each other keyword beside its neighbour, on either direction: the definitions compute. Assumes nothing.
use mathlib.Core.Path.{◌≡◌, refl}
use mathlib.Core.Bool.{Bool, true, false}
use mathlib.Core.List.{List, [], ◌∷◌}
use Prim.Native.Nat.{ℕ}
use lib.Ieee.{of_int, of_bits, add, div, le, lt}
use Rattle.grid.specs.Floats.{counted}
use Rattle.keywords.specs.Alignment.{content_of}
use Rattle.place_align.specs.Align.{fallback, made_safe, positioned, first_offset, later_offset}

-- free, gap, items, the keyword's code, reversed; the first offset and the later ones
record Case : Type 0 where
  free : ℕ
  gap : ℕ
  items : ℕ
  keyword : ℕ
  reversed : Bool
  first : ℕ
  later : ℕ

cases : List Case
cases =
    record { free = 60; gap = 5; items = 3; keyword = 11; reversed = false; first = 0; later = 35 }
    ∷ record { free = 60; gap = 5; items = 3; keyword = 12; reversed = false; first = 10; later = 25 }
    ∷ record { free = 60; gap = 5; items = 3; keyword = 13; reversed = false; first = 15; later = 20 }
    ∷ record { free = 60; gap = 5; items = 1; keyword = 12; reversed = false; first = 30; later = 5 }
    ∷ record { free = 60; gap = 5; items = 3; keyword = 2; reversed = true; first = 60; later = 5 }
    ∷ record { free = 60; gap = 5; items = 3; keyword = 0; reversed = true; first = 0; later = 5 }
    ∷ record { free = 60; gap = 5; items = 3; keyword = 9; reversed = false; first = 30; later = 5 }
    ∷ []

abbrev Holds : List Case → Type 0
Holds [] = Unit {0}
Holds (c ∷ l) =
    let used = made_safe (counted c.free) (fallback (counted c.free) c.items (content_of c.keyword)) in
    record {
      first : first_offset (counted c.free) c.items c.reversed used ≡ counted c.first;
      later : later_offset (counted c.free) c.items (counted c.gap) used ≡ counted c.later;
      rest : Holds l;
    }

spread : Holds cases
unfolding cases content_of fallback made_safe positioned first_offset later_offset of_int of_bits add div le lt
spread =
    record { first = refl; later = refl; rest = record { first = refl; later = refl; rest = record { first = refl; later = refl; rest = record { first = refl; later = refl; rest = record { first = refl; later = refl; rest = record { first = refl; later = refl; rest = record { first = refl; later = refl; rest = tt } } } } } } }
