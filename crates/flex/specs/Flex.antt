-- Document 01, "Flexible lengths, CSS-FLEX 9.7", of one line, in the standard's order of steps. Items are as they are
-- read: no number is -0.0, an auto margin is 0, and an absent maximum is infinite. "f32 throughout, each operation
-- rounded once"; "Every sum runs from item 0 upward". Assumes nothing.
use Rattle.std.specs.Prelude.{◌≡◌, Bool, true, cond, ◌&&◌, ◌||◌, List, [], ◌∷◌, ◌++◌, map, ℕ, zero, suc, ◌+◌, ◌-◌, ◌≤◌, ◌<◌, length, drop, ℤ, pos, nat_abs, ◌+ℤ◌, ◌-ℤ◌, ◌*ℤ◌, Float}
use Rattle.std.specs.Int.Signed.{lt_z}
use Rattle.std.specs.Float.Ieee.{neg, lt, eq}
use Rattle.grid.specs.Grid.{sixty_fourths, cleaned}
use Rattle.grid.specs.Floats.{◌⊕◌, ◌⊖◌, ◌⊗◌, ◌⊘◌, nought, unity, lowered, raised, gaps}
use Rattle.flex.specs.declared.Item.{Item}
use Rattle.flex.specs.declared.Line.{Line}
use Rattle.flex.specs.declared.Share.{Share}

-- ---- f32

abbrev pub magnitude : Float → Float
magnitude x = cond (lt x nought) (neg x) x

-- the sum of f over a list, on top of s; and from 0.0
unfoldable pub sum_from : {A : Type 0} → Float → (A → Float) → List A → Float
sum_from s f [] = s
sum_from s f (a ∷ l) = sum_from (s ⊕ f a) f l

abbrev pub total : {A : Type 0} → (A → Float) → List A → Float
total f l = sum_from nought f l

-- ---- an item

-- "lowered to the maximum, raised to the minimum, then to padding plus border; to clamp means the same"
unfoldable pub clamp : Item → Float → Float
clamp it x = raised (raised (lowered x it.maximum) it.minimum) it.edges

-- "Hypothetical size": the base, clamped
abbrev pub hypothetical : Item → Float
hypothetical it = clamp it it.base

-- "base less padding and border, at least 0"
abbrev pub inner_base : Item → Float
inner_base it = raised (it.base ⊖ it.edges) nought

-- "each size + (start margin + end margin)"
abbrev pub outer : Item → Float → Float
outer it size = size ⊕ (it.start ⊕ it.end)

-- the item's flex factor; and what it weighs in the sharing out, "shrinking with inner base × shrink as factor"
abbrev pub factor : Bool → Item → Float
factor growing it = cond growing it.grow it.shrink

abbrev pub weight : Bool → Item → Float
weight growing it = cond growing it.grow (inner_base it ⊗ it.shrink)

-- ---- "free space before flexing, signed, in whole sixty-fourths: inner main size less hypothetical outer sizes and
-- gaps"

abbrev pub outer_units : Item → ℤ
outer_units it = sixty_fourths (hypothetical it) +ℤ (sixty_fourths it.start +ℤ sixty_fourths it.end)

unfoldable pub sum_units : List Item → ℤ
sum_units [] = pos 0
sum_units (it ∷ l) = outer_units it +ℤ sum_units l

abbrev pub free_before : Float → Float → List Item → ℤ
free_before inner gap items = sixty_fourths inner -ℤ (sixty_fourths gap *ℤ pos (length items - 1) +ℤ sum_units items)

-- the sum of check 6: "over items of (|outer main size| + gap), hypothetical where the call flexes"
unfoldable pub outer_sum : Float → List Item → ℕ
outer_sum gap [] = 0
outer_sum gap (it ∷ l) = nat_abs (outer_units it) + nat_abs (sixty_fourths gap) + outer_sum gap l

-- ---- step 1, the used flex factor: "Grow if that free space is above 0, else shrink"

abbrev pub grows : Float → Float → List Item → Bool
grows inner gap items = lt_z (pos 0) (free_before inner gap items)

-- ---- step 2, inflexible items

-- where an item stands: frozen at its target, or not
pub record Cell : Type 0 where
  pub item : Item
  pub frozen : Bool
  pub target : Float

-- "each item with factor 0, and, growing, base above hypothetical, or, shrinking, base below it"
unfoldable pub inflexible : Bool → Item → Bool
inflexible growing it =
    eq (factor growing it) nought || cond growing (lt (hypothetical it) it.base) (lt it.base (hypothetical it))

-- such an item is frozen at its hypothetical size; the target of one that is not frozen is a placeholder, which no step
-- reads
abbrev pub start_cell : Bool → Item → Cell
start_cell growing it = record { item = it; frozen = inflexible growing it; target = hypothetical it }

-- "Freeze at hypothetical size each item ..": the items of a line before its first round
abbrev pub begun : Float → Float → List Item → List Cell
begun inner gap items = map (start_cell (grows inner gap items)) items

-- ---- step 3, initial free space; and step 4b, remaining free space

-- "frozen targets and unfrozen bases, with margins"
abbrev pub outer_now : Cell → Float
outer_now c = outer c.item (cond c.frozen c.target c.item.base)

-- "inner size less used space", which is the gaps plus the finished sum
abbrev pub remaining : Float → Float → List Cell → Float
remaining inner gap cells = inner ⊖ (gaps gap (length cells) ⊕ total outer_now cells)

-- what the rounds of a line go by
abbrev pub line_of : Float → Float → List Item → Line
line_of inner gap items = record {
  inner = inner;
  gap = gap;
  initial = remaining inner gap (begun inner gap items);
  growing = grows inner gap items;
}

-- ---- step 4a, the items that are not frozen, and how many

unfoldable pub left : List Cell → List Cell
left [] = []
left (c ∷ l) = cond c.frozen (left l) (c ∷ left l)

abbrev pub unfrozen : List Cell → ℕ
unfrozen cells = length (left cells)

-- ---- step 4b: "if unfrozen grow or shrink factors sum below 1, initial times that sum replaces it where smaller in
-- magnitude"

unfoldable pub limited : Float → Float → Float → Float
limited initial factors free =
    cond (lt factors unity && lt (magnitude (initial ⊗ factors)) (magnitude free)) (initial ⊗ factors) free

-- what a round shares out, and over what sum of weights
unfoldable pub share : Line → List Cell → Share
share ln cells = record {
  growing = ln.growing;
  free = limited ln.initial (total (λ c. factor ln.growing c.item) (left cells))
      (remaining ln.inner ln.gap cells);
  weights = total (λ c. weight ln.growing c.item) (left cells);
}

-- ---- step 4c: "add to each base free × (factor ÷ sum), .. nothing if free or sum is 0"

unfoldable pub flexed : Share → Item → Float
flexed sh it = cond (eq sh.free nought || eq sh.weights nought) it.base
    (it.base ⊕ sh.free ⊗ (weight sh.growing it ⊘ sh.weights))

-- ---- step 4d: "A violation is the clamped size less the unclamped"

unfoldable pub violation : Share → Item → Float
violation sh it = clamp it (flexed sh it) ⊖ flexed sh it

-- ---- step 4e, by the total of the violations: "freeze all if 0, the raised items if positive, the lowered items if
-- negative"

unfoldable pub freezes : Float → Float → Bool
freezes sum v = cond (lt nought sum) (lt nought v) (cond (lt sum nought) (lt v nought) true)

unfoldable pub settle : Share → Float → Cell → Cell
settle sh sum c = cond c.frozen c (record {
  item = c.item;
  frozen = freezes sum (violation sh c.item);
  target =
      clamp c.item (flexed sh c.item);
})

-- ---- one round, steps 4b to 4e

unfoldable pub round : Line → List Cell → List Cell
round ln cells = let sh = share ln cells in map (settle sh (total (λ c. violation sh c.item) (left cells))) cells

-- ---- step 4, the loop: "While an item is unfrozen"

-- the cells after k rounds
unfoldable pub after : Line → ℕ → List Cell → List Cell
after ln zero cells = cells
after ln (suc k) cells = round ln (after ln k cells)

-- n is the number of rounds: before each of them an item is unfrozen, and after them none is
pub record Runs (ln : Line) (cells : List Cell) (n : ℕ) : Type 0 where
  pub needed : (k : ℕ) → k < n → 0 < unfrozen (after ln k cells)
  pub over : unfrozen (after ln n cells) ≡ 0

-- ---- step 5, the used sizes: "an answer that would be -0.0 is 0.0"

abbrev pub targets : Float → Float → List Item → ℕ → List Float
targets inner gap items n = map (λ c. cleaned c.target) (after (line_of inner gap items) n (begun inner gap items))

-- what flexing a line gives: free space, rounds, and in the first cells the targets; the cells past those are as they
-- were
pub record Flexed (inner gap : Float) (items : List Item) (free : ℤ) (rounds : ℕ) (old new : List Float) : Type 0 where
  pub space : free ≡ free_before inner gap items
  pub number : Runs (line_of inner gap items) (begun inner gap items) rounds
  pub few : rounds ≤ length items
  pub cells : new ≡ targets inner gap items rounds ++ drop (length items) old
