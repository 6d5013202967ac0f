-- Where the rounds of an accepted line start: sound cells, at a level that the line's sum and its free space in sixty-fourths give. Assumes nothing.
use mathlib.Core.Path.{◌≡◌, refl, sym, ap, ◌∙◌, subst}
use mathlib.Core.Logic.{inr}
use mathlib.Core.Bool.{Bool, true, false, not, cond, ◌||◌}
use mathlib.Core.List.{List, [], ◌∷◌, map}
use Prim.Native.Nat.{ℕ, suc, ◌+◌, ◌-◌, ◌*◌, ◌≤◌}
use native.Mathlib.Nat.{le_trans, le_of_eq, mul-le-mul_right}
use native.Mathlib.Omega.{arith}
use lib.Dec.{T}
use lib.ListN.{length}
use lib.Ieee.{Float, lt, eq}
use Rattle.flex.proofs.Falls.{all_map}
use Rattle.grid.specs.Grid.{sixty_fourths}
use Rattle.flex.specs.declared.Item.{Item}
use Rattle.grid.specs.Floats.{gaps, nought}
use Rattle.flex.specs.Flex.{Cell, hypothetical, outer_units, sum_units, free_before, grows, inflexible, factor, start_cell, begun, remaining, line_of}
use Rattle.flex_reach.specs.Reach.{IsItem, IsLine}
use Rattle.flex.proofs.Signs.{All}
use Rattle.flex_reach.proofs.Units.{px, far, lt_num}
use Rattle.flex_reach.proofs.Clamp.{Upto, bounded, bounded_small}
use Rattle.flex_reach.proofs.Totals.{count, count_map, count-alike}
use Rattle.flex_reach.proofs.Space.{margin, Way, Sound, Room, room, haves, useds, sizes}
use Rattle.flex_reach.proofs.Levels.{ground, based, sizes_based, based_grows, based_shrinks}
use Rattle.flex_reach.proofs.Step.{Fixed, Kept, Level, Lean}
use Rattle.flex_reach.proofs.Domain.{unit, unit_px, plus, minus, size_grid, size_upto, fine}
use Rattle.flex_reach.proofs.Outer.{above_zero, hypothetical_far, each_all, sum_sides, sum_small, all_sides, margins, Gaps, gaps_near, free_sides}

-- ---- the cells

or_false : (a b : Bool) → a || b ≡ false → b ≡ false
or_false true b e = absurd (mathlib.Core.Bool.true≢false e)
or_false false b e = e

pub first_sound : (g : Bool) {it : Item} → IsItem it → Sound g (start_cell g it)
unfolding inflexible
first_sound g {it} i = record {
  item = fine i;
  size = go (eq (factor g it) nought || cond g (lt (hypothetical it) it.base) (lt it.base (hypothetical it)));
  way = λ e. way g (or_false (eq (factor g it) nought) (cond g (lt (hypothetical it) it.base) (lt it.base (hypothetical it))) e);
}
  where
    go : (b : Bool) → Upto (262144 * px) (cond b (hypothetical it) it.base)
    go true = record { num = (hypothetical_far i).0; above = (hypothetical_far i).1; most = le_trans (le_of_eq (hypothetical_far i).2) (bounded_small (fine i).sizes (far false it.base) (size_upto i.base).most) }
    go false = size_upto i.base

    order : (h h' b b' k : ℕ) → b + h' ≤ h + b' → h ≡ k → h' ≡ 0 → b' ≡ 0 → b ≤ k
    order h h' b b' k l e f g = omega arith

    order' : (h h' b b' k : ℕ) → h + b' ≤ b + h' → h ≡ k → h' ≡ 0 → b' ≡ 0 → k ≤ b
    order' h h' b b' k l e f g = omega arith

    way : (g : Bool) → cond g (lt (hypothetical it) it.base) (lt it.base (hypothetical it)) ≡ false → Way g it
    way true e = order (far false (hypothetical it)) (far true (hypothetical it)) (far false it.base) (far true it.base) (bounded it (far false it.base))
        ((lt_num (hypothetical_far i).0 (size_upto i.base).num).1 (subst (λ (b : Bool). T (not b)) (sym e) tt)) (hypothetical_far i).2 (hypothetical_far i).1 (size_upto i.base).above
    way false e = order' (far false (hypothetical it)) (far true (hypothetical it)) (far false it.base) (far true it.base) (bounded it (far false it.base))
        ((lt_num (size_upto i.base).num (hypothetical_far i).0).1 (subst (λ (b : Bool). T (not b)) (sym e) tt)) (hypothetical_far i).2 (hypothetical_far i).1 (size_upto i.base).above

sounds : (g : Bool) (l : List Item) → All IsItem l → All (Sound g) (map (start_cell g) l)
sounds g [] h = tt
sounds g (it ∷ l) h = (first_sound g h.0, sounds g l h.1)

long_first : (g : Bool) (l : List Item) → length (map (start_cell g) l) ≡ length l
long_first g [] = refl
long_first g (it ∷ l) = ap suc (long_first g l)

-- at the start every item counts with its hypothetical size
grounds : (g : Bool) (l : List Item) → All IsItem l → count ground (map (start_cell g) l) ≡ count (λ it. bounded it (far false it.base)) l
grounds g l h = count_map ground (start_cell g) l ∙ count-alike (λ it. ground (start_cell g it)) (λ it. bounded it (far false it.base)) l (all_map (λ it i. go it i (inflexible g it)) l h)
  where
    go : (it : Item) → IsItem it → (b : Bool) → cond b (far false (hypothetical it)) (bounded it (far false it.base)) ≡ bounded it (far false it.base)
    go it i true = (hypothetical_far i).2
    go it i false = refl

-- ---- the line

module _ (inner gap : Float) (items : List Item) (line : IsLine inner gap items) where
  ok : All IsItem items
  ok = each_all IsItem items line.items_are

  abbrev cells : List Cell
  cells = begun inner gap items

  small : count (λ it. minus (outer_units it)) items + length items * plus (sixty_fourths gap) ≤ 16777216
  small = le_trans (sum_small gap items) line.sum

  gapped : Gaps gap (length items)
  gapped = gaps_near gap (length items) line.gap_is line.few (second (count (λ it. minus (outer_units it)) items) (length items * plus (sixty_fourths gap)) 16777216 small)
    where
      second : (a b c : ℕ) → a + b ≤ c → b ≤ c
      second a b c h = omega arith

  have_is : haves inner cells ≡ far false inner + count (λ it. far true (margin it)) items
  have_is = ap (λ (k : ℕ). far false inner + k) (count_map (λ c. far true (margin c.item)) (start_cell (grows inner gap items)) items)

  used_is : useds (gaps gap (length items)) cells ≡ far false (gaps gap (length items)) + count (λ it. far false (margin it)) items
  used_is = ap (λ (k : ℕ). far false (gaps gap (length items)) + k) (count_map (λ c. far false (margin c.item)) (start_cell (grows inner gap items)) items)

  ground_is : count ground cells ≡ count (λ it. bounded it (far false it.base)) items
  ground_is = grounds (grows inner gap items) items ok

  -- what is there is not far above the sizes
  not_above : haves inner cells ≤ useds (gaps gap (length items)) cells + count ground cells + 2097152 * px
  not_above = go (haves inner cells) (useds (gaps gap (length items)) cells) (count ground cells) (far false inner) (far false (gaps gap (length items))) (count (λ it. far true (margin it)) items) (count (λ it. far false (margin it)) items) (count (λ it. bounded it (far false it.base)) items)
      (count (λ it. far true it.start + far true it.end) items) (count (λ it. far false it.start + far false it.end) items) (plus (sum_units items)) (minus (sum_units items)) (count (λ it. plus (outer_units it)) items) (count (λ it. minus (outer_units it)) items)
      unit (length items * px) px have_is used_is ground_is (size_upto line.inner_is).most (all_sides items ok) (margins items ok).1 (ap (λ (k : ℕ). k * unit) (sum_sides items))
      (le_trans (mul-le-mul_right unit (first_of (count (λ it. minus (outer_units it)) items) (length items * plus (sixty_fourths gap)) 16777216 small)) (le_of_eq (re unit px unit_px))) (mul-le-mul_right px line.few)
    where
      first_of : (a b c : ℕ) → a + b ≤ c → a ≤ c
      first_of a b c h = omega arith

      re : (u q : ℕ) → 64 * u ≡ q → 16777216 * u ≡ 262144 * q
      re u q e = omega arith

      go : (A B T' i v mt mf T'' st sf ps ns po oo u np p : ℕ) → A ≡ i + mt → B ≡ v + mf → T' ≡ T'' → i ≤ 262144 * p → ps * u + st ≡ ns * u + (T'' + sf) → mt + sf ≤ mf + st + np → (ps + oo) * u ≡ (ns + po) * u → oo * u ≤ 262144 * p → np ≤ 1024 * p
          → A ≤ B + T' + 2097152 * p
      go A B T' i v mt mf T'' st sf ps ns po oo u np p a b c d e f h j k = omega arith

  -- where the line grows, not far below them either
  not_below : T (grows inner gap items) → useds (gaps gap (length items)) cells + count ground cells ≤ haves inner cells + 2097152 * px
  not_below t = go (haves inner cells) (useds (gaps gap (length items)) cells) (count ground cells) (far false inner) (far false (gaps gap (length items))) (count (λ it. far true (margin it)) items) (count (λ it. far false (margin it)) items) (count (λ it. bounded it (far false it.base)) items)
      (count (λ it. far true it.start + far true it.end) items) (count (λ it. far false it.start + far false it.end) items) (plus (sum_units items)) (minus (sum_units items)) (plus (free_before inner gap items)) (minus (free_before inner gap items)) (plus (sixty_fourths inner)) (plus (sixty_fourths gap) * (length items - 1))
      unit (length items * px) px have_is used_is ground_is (size_grid line.inner_is).over (all_sides items ok) (margins items ok).0 (ap (λ (k : ℕ). k * unit) (free_sides inner gap items line.inner_is line.gap_is)) (above_zero (free_before inner gap items) t)
      gapped.over (mul-le-mul_right px line.few)
    where
      go : (A B T' i v mt mf T'' st sf ps ns pf nf q k u np p : ℕ) → A ≡ i + mt → B ≡ v + mf → T' ≡ T'' → i ≡ q * u → ps * u + st ≡ ns * u + (T'' + sf) → mf + st ≤ mt + sf + np → (pf + (k + ps)) * u ≡ (nf + (q + ns)) * u → nf ≡ 0 → v ≤ k * u + p → np ≤ 1024 * p
          → B + T' ≤ A + 2097152 * p
      go A B T' i v mt mf T'' st sf ps ns pf nf q k u np p a b c d e f h j l m = omega (arith, ap (λ (x : ℕ). x * u) j)

  pub level : Level (grows inner gap items) (haves inner cells) (useds (gaps gap (length items)) cells) (count ground cells)
  level = go (grows inner gap items) not_below
    where
      go : (b : Bool) → (T b → useds (gaps gap (length items)) cells + count ground cells ≤ haves inner cells + 2097152 * px) → Level b (haves inner cells) (useds (gaps gap (length items)) cells) (count ground cells)
      go true h = (not_above, h tt)
      go false h = not_above

  sound : All (Sound (grows inner gap items)) cells
  sound = sounds (grows inner gap items) items ok

  long : length cells ≡ length items
  long = long_first (grows inner gap items) items

  space : Room (haves inner cells) (useds (gaps gap (length items)) cells) (count based cells) (remaining inner gap cells)
  space = subst (λ (k : ℕ). Room (haves inner cells) (useds (gaps gap (length items)) cells) k (remaining inner gap cells)) (sizes_based cells)
      (subst (λ (k : ℕ). Room (haves inner cells) (useds (gaps gap k) cells) (sizes cells) (remaining inner gap cells)) long
      (room (grows inner gap items) inner (gaps gap (length cells)) cells (size_upto line.inner_is) (subst (λ (k : ℕ). Upto (262145 * px) (gaps gap k)) (sym long) gapped.upto) sound (le_trans (le_of_eq long) line.few)))

  pub fixed : Fixed (line_of inner gap items) (length items)
  fixed = record {
    few = line.few;
    inner = size_upto line.inner_is;
    gaps_are = gapped.upto;
    initial = space.num;
    initial_most = two (far false (remaining inner gap cells)) (far true (remaining inner gap cells)) px (space.most false) (space.most true);
    lean = lean (grows inner gap items) level sound;
  }
    where
      two : (a b p : ℕ) → a ≤ 1073741824 * p → b ≤ 1073741824 * p → a + b ≤ 2147483648 * p
      two a b p h k = omega arith

      up_to : (x y A B b t p : ℕ) → x + A ≤ y + (B + b) + 131072 * p → b ≤ t → B + t ≤ A + 2097152 * p → x ≤ y + 2228224 * p
      up_to x y A B b t p h k l = omega arith

      down_to : (x y A B b t p : ℕ) → x + (B + b) ≤ y + A + 131072 * p → t ≤ b → A ≤ B + t + 2097152 * p → x ≤ y + 2228224 * p
      down_to x y A B b t p h k l = omega arith

      lean : (b : Bool) → Level b (haves inner cells) (useds (gaps gap (length items)) cells) (count ground cells) → All (Sound b) cells → Lean b (remaining inner gap cells)
      lean true l s = up_to (far true (remaining inner gap cells)) (far false (remaining inner gap cells)) (haves inner cells) (useds (gaps gap (length items)) cells) (count based cells) (count ground cells) px space.least (based_grows cells s) l.1
      lean false l s = down_to (far false (remaining inner gap cells)) (far true (remaining inner gap cells)) (haves inner cells) (useds (gaps gap (length items)) cells) (count based cells) (count ground cells) px space.largest (based_shrinks cells s) l

  pub start : Kept (line_of inner gap items) (length items) (haves inner cells) (useds (gaps gap (length items)) cells) cells
  start = record { long = long; have_is = refl; used_is = refl; sound = sound; state = inr level }
