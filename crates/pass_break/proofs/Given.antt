-- What breaking asks, from what the pass's checks show: sizes that are whole sixty-fourths with a small sum, and so the hypothetical outer sizes of
-- measured items. Assumes nothing.
use mathlib.Core.Path.{◌≡◌, sym, ap, ◌∙◌, subst}
use mathlib.Core.List.{List, ◌++◌, map}
use Prim.Native.Nat.{ℕ, zero, suc, ◌+◌, ◌≤◌, ◌<◌}
use native.Mathlib.Nat.{zero-add}
use native.Mathlib.Omega.{arith}
use lib.ListN.{length, get_or, take, drop}
use lib.Seq.{take_at}
use lib.IntN.{ℤ, pos, nat_abs}
use lib.Ieee.{Float, nan}
use Rattle.grid.specs.Grid.{sixty_fourths}
use Rattle.grid.specs.Values.{At, Length}
use Rattle.grid.proofs.Meaning.{grid_of_at}
use Rattle.lists.specs.Cells.{sum_up_to, each}
use Rattle.lists.proofs.UpTo.{sum_ext, sum_past}
use Rattle.keywords.specs.declared.AvailableSpace.{AvailableSpace}
use Rattle.break_greedy.specs.Calls.{units}
use Rattle.break_greedy.specs.Steps.{LengthLimit, Breakable}
use Rattle.flex.specs.declared.Item.{Item}
use Rattle.flex.specs.Flex.{outer, hypothetical, outer_units, outer_sum}
use Rattle.flex.specs.Accepted.{Measured}
use Rattle.flex_table.specs.Table.{item_in, items_in, Tabled}
use Rattle.lists.proofs.Each.{length-each, get_or-each, map_each, each_ext}
use Rattle.flex_table.proofs.Each.{outer-none, outer_snoc}
use Rattle.flex.proofs.Units.{outer_at_lem}
use Rattle.pass_break.specs.Outer.{outer_sizes}

-- ---- any sizes

-- sizes that are whole sixty-fourths, with a small sum, can be broken
pub breakable_at : (limit : AvailableSpace) (gap : Float) (sizes : List Float) (zs : ℕ → ℤ) → length sizes ≤ 1024
    → ((i : ℕ) → i < length sizes → At 64 (get_or sizes i nan) (zs i))
    → sum_up_to (λ i. nat_abs (zs i) + nat_abs (sixty_fourths gap)) (length sizes) ≤ 16777216
    → LengthLimit limit → Length gap → (z : ℕ) × (sixty_fourths gap ≡ pos z)
    → Breakable limit gap sizes
breakable_at limit gap sizes zs few at small l g p = record {
  few = few;
  each = record { each = λ i h. record { grid = (grid_of_at (get_or sizes i nan) (zs i) (at i h)).0; small = one i h } };
  spacing = g;
  gap_not_below_0 = p;
  limit_is = l;
  small = subst (λ (s : ℕ). s ≤ 16777216) (sum_ext f e (length sizes) same) small;
}
  where
    f : ℕ → ℕ
    f i = nat_abs (zs i) + nat_abs (sixty_fourths gap)

    e : ℕ → ℕ
    e i = nat_abs (sixty_fourths (get_or sizes i nan)) + nat_abs (sixty_fourths gap)

    same : (i : ℕ) → i < length sizes → f i ≡ e i
    same i h = ap (λ (z : ℤ). nat_abs z + nat_abs (sixty_fourths gap)) (sym (grid_of_at (get_or sizes i nan) (zs i) (at i h)).1)

    one : (i : ℕ) → i < length sizes → nat_abs (sixty_fourths (get_or sizes i nan)) ≤ 16777216
    one i h = omega (arith, sum_past f i (length sizes) h, ap nat_abs (grid_of_at (get_or sizes i nan) (zs i) (at i h)).1)

-- ---- the items of the pass

-- check 6 adds up item after item
outer_up_to : (gap : Float) (f : ℕ → Item) (n : ℕ) → sum_up_to (λ i. nat_abs (outer_units (f i)) + nat_abs (sixty_fourths gap)) n ≡ outer_sum gap (each n f)
unfolding each sum_up_to
outer_up_to gap f zero = sym (outer-none gap f)
outer_up_to gap f (suc n) = ap (λ (s : ℕ). s + (nat_abs (outer_units (f n)) + nat_abs (sixty_fourths gap))) (outer_up_to gap f n) ∙ sym (outer_snoc gap (each n f) (f n))

module _ (t : List Item) (n : ℕ) where
  abbrev item : ℕ → Item
  item i = item_in t (0 + i)

  abbrev size : ℕ → Float
  size i = outer (item i) (hypothetical (item i))

  sizes_each : outer_sizes (items_in t 0 n) ≡ each n size
  sizes_each = map_each (λ (it : Item). outer it (hypothetical it)) n item

  pub sizes_long : length (outer_sizes (items_in t 0 n)) ≡ n
  sizes_long = ap length sizes_each ∙ length-each n size

  -- the part of a longer list that holds them
  pub sizes_lent : (before : List Float) → take n (outer_sizes (items_in t 0 n) ++ drop n before) ≡ outer_sizes (items_in t 0 n)
  sizes_lent before = take_at (outer_sizes (items_in t 0 n)) (drop n before) n sizes_long

  module _ (gap : Float) (tabled : Tabled t n) (within : outer_sum gap (items_in t 0 n) ≤ 16777216) where
    sum-within : sum_up_to (λ i. nat_abs (outer_units (item i)) + nat_abs (sixty_fourths gap)) n ≤ 16777216
    sum-within = subst (λ (s : ℕ). s ≤ 16777216) (sym (outer_up_to gap item n)) within

    -- every size is exactly its whole sixty-fourths
    size_at : (i : ℕ) → i < n → At 64 (size i) (outer_units (item i))
    size_at i h =
        outer_at_lem (item i) (subst (λ (k : ℕ). Measured (item_in t k)) (sym (zero-add i)) (tabled i h))
        (omega (arith, sum_past (λ j. nat_abs (outer_units (item j)) + nat_abs (sixty_fourths gap)) i n h, sum-within))

    -- THE SIZES OF A TABLE THAT THE CHECKS ACCEPTED CAN BE BROKEN
    pub table_breakable : (limit : AvailableSpace) → n ≤ 1024 → LengthLimit limit → Length gap → (z : ℕ) × (sixty_fourths gap ≡ pos z) → Breakable limit gap (outer_sizes (items_in t 0 n))
    table_breakable limit few l g p =
        subst (Breakable limit gap) (sym sizes_each)
        (breakable_at limit gap (each n size) (λ i. outer_units (item i)) (omega (arith, length-each n size))
        (λ i h. let k : i < n = omega (arith, length-each n size) in subst (λ (x : Float). At 64 x (outer_units (item i))) (sym (get_or-each n size i nan k)) (size_at i k))
        (subst (λ (m : ℕ). sum_up_to (λ i. nat_abs (outer_units (item i)) + nat_abs (sixty_fourths gap)) m ≤ 16777216) (sym (length-each n size)) sum-within)
        l g p)

    -- and in sixty-fourths they are the definition's
    pub table-units : units (outer_sizes (items_in t 0 n)) ≡ map outer_units (items_in t 0 n)
    table-units =
        ap units sizes_each
        ∙ map_each sixty_fourths n size
        ∙ each_ext n (λ i. sixty_fourths (size i)) (λ i. outer_units (item i)) (λ i h. (grid_of_at (size i) (outer_units (item i)) (size_at i h)).1)
        ∙ sym (map_each outer_units n item)
