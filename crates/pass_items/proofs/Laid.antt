-- All items stored are `numbers_of` and `codes_of`, and the cells after them as they were: `Columns` at an item's fields. Assumes nothing.
use mathlib.Core.Path.{◌≡◌, subst}
use Prim.Native.Nat.{ℕ, ◌*◌, ◌≤◌, ◌<◌}
use native.Mathlib.Nat.{le_refl}
use mathlib.Core.List.{List, [], ◌∷◌, ◌++◌, map}
use lib.Ieee.{Float, nan}
use lib.ListN.{length, take, drop, get_or}
use lib.Seq.{take-length}
use Rattle.pass_items.specs.declared.Item.{Item}
use Rattle.pass_items.specs.Items.{numbers_of, codes_of}
use Rattle.pass_items.specs.Parts.{numbers_in, codes_in}
use Rattle.pass_items.proofs.Columns.{laid, length_laid, laid_all, taken_all, joined_at}

-- what stands past the end of a list of items
abbrev pub blank : Item
blank = record {
  main_base = nan;
  main_minimum = nan;
  main_maximum = nan;
  main_edges = nan;
  grow = nan;
  shrink = nan;
  main_start = nan;
  main_end = nan;
  cross_measured = nan;
  cross_minimum = nan;
  cross_maximum = nan;
  cross_edges = nan;
  cross_start = nan;
  cross_end = nan;
  has_main_maximum = 0;
  auto_main_start = 0;
  auto_main_end = 0;
  has_cross_maximum = 0;
  auto_cross_start = 0;
  auto_cross_end = 0;
  align_self = 0;
  auto_cross_size = 0;
}

-- the lists once i of m items are stored
abbrev pub numbers_laid : ℕ → List Item → List Float → ℕ → List Float
numbers_laid m xs l i = laid m xs numbers_in blank l i

abbrev pub codes_laid : ℕ → List Item → List ℕ → ℕ → List ℕ
codes_laid m xs l i = laid m xs codes_in blank l i

abbrev pub number_fields : List (Item → Float)
number_fields =
    (λ (x : Item). x.main_minimum) ∷ (λ (x : Item). x.main_maximum) ∷ (λ (x : Item). x.main_edges) ∷ (λ (x : Item). x.grow) ∷ (λ (x : Item). x.shrink) ∷ (λ (x : Item). x.main_start)
    ∷ (λ (x : Item). x.main_end) ∷ (λ (x : Item). x.cross_measured) ∷ (λ (x : Item). x.cross_minimum) ∷ (λ (x : Item). x.cross_maximum) ∷ (λ (x : Item). x.cross_edges)
    ∷ (λ (x : Item). x.cross_start) ∷ (λ (x : Item). x.cross_end) ∷ []

abbrev pub code_fields : List (Item → ℕ)
code_fields =
    (λ (x : Item). x.auto_main_start) ∷ (λ (x : Item). x.auto_main_end) ∷ (λ (x : Item). x.has_cross_maximum) ∷ (λ (x : Item). x.auto_cross_start) ∷ (λ (x : Item). x.auto_cross_end)
    ∷ (λ (x : Item). x.align_self) ∷ (λ (x : Item). x.auto_cross_size) ∷ []

pub all_numbers : (m : ℕ) (xs : List Item) (l : List Float) → m ≤ length xs → 14 * m ≤ length l → numbers_laid m xs l m ≡ numbers_of (take m xs) ++ drop (14 * m) l
all_numbers m xs l few h = laid_all m xs (λ (x : Item). x.main_base) number_fields blank l few h

pub all_codes : (m : ℕ) (xs : List Item) (l : List ℕ) → m ≤ length xs → 8 * m ≤ length l → codes_laid m xs l m ≡ codes_of (take m xs) ++ drop (8 * m) l
all_codes m xs l few h = laid_all m xs (λ (x : Item). x.has_main_maximum) code_fields blank l few h

-- what `unpack` leaves, read back
pub taken_numbers : (m : ℕ) (xs : List Item) (rest : List Float) → m ≤ length xs → take (14 * m) (numbers_of (take m xs) ++ rest) ≡ numbers_of (take m xs)
taken_numbers m xs rest few = taken_all m xs (λ (x : Item). x.main_base) number_fields rest few

pub taken_codes : (m : ℕ) (xs : List Item) (rest : List ℕ) → m ≤ length xs → take (8 * m) (codes_of (take m xs) ++ rest) ≡ codes_of (take m xs)
taken_codes m xs rest few = taken_all m xs (λ (x : Item). x.has_main_maximum) code_fields rest few

-- list k of so many cells is field k of the items, in an item's own order
pub numbers_at : (xs : List Item) (k : ℕ) → k < 14 → take (length xs) (drop (k * length xs) (numbers_of xs)) ≡ map (get_or ((λ (x : Item). x.main_base) ∷ number_fields) k (λ (x : Item). nan)) xs
numbers_at xs k h =
    subst (λ (ys : List Item). take (length xs) (drop (k * length xs) (numbers_of ys)) ≡ map (get_or ((λ (x : Item). x.main_base) ∷ number_fields) k (λ (x : Item). nan)) ys) (take-length xs)
    (joined_at (length xs) xs (λ (x : Item). x.main_base) number_fields k (λ (x : Item). nan) (le_refl (length xs)) h)

pub codes_at : (xs : List Item) (k : ℕ) → k < 8 → take (length xs) (drop (k * length xs) (codes_of xs)) ≡ map (get_or ((λ (x : Item). x.has_main_maximum) ∷ code_fields) k (λ (x : Item). 0)) xs
codes_at xs k h =
    subst (λ (ys : List Item). take (length xs) (drop (k * length xs) (codes_of ys)) ≡ map (get_or ((λ (x : Item). x.has_main_maximum) ∷ code_fields) k (λ (x : Item). 0)) ys) (take-length xs)
    (joined_at (length xs) xs (λ (x : Item). x.has_main_maximum) code_fields k (λ (x : Item). 0) (le_refl (length xs)) h)

-- the lists are as long as they were
pub length_numbers : (m : ℕ) (xs : List Item) (l : List Float) (i : ℕ) → length (numbers_laid m xs l i) ≡ length l
length_numbers m xs l i = length_laid m xs numbers_in blank l i

pub length_codes : (m : ℕ) (xs : List Item) (l : List ℕ) (i : ℕ) → length (codes_laid m xs l i) ≡ length l
length_codes m xs l i = length_laid m xs codes_in blank l i
