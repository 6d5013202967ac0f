-- What a loop over the items keeps: a sum so far, and the cells rewritten so far. Assumes nothing.
use mathlib.Core.Path.{◌≡◌, refl, sym, ap, ap₂, ◌∙◌}
use mathlib.Core.Bool.{Bool, true, false, cond}
use mathlib.Core.List.{List, [], ◌∷◌, ◌++◌, append-nil}
use Prim.Native.Nat.{ℕ, ◌+◌, ◌≤◌, ◌<◌}
use native.Mathlib.Nat.{le_refl, le_of_lt, lt_of_lt_of_le, ne_of_lt, ne_of_gt}
use native.Mathlib.Numerals.{add-one, lt-add-one}
use native.Mathlib.Omega.{arith}
use lib.ListN.{length, get_or, set, take, length-append, length-set}
use lib.Seq.{get_or-set_same, get_or-set_other, take-suc}
use lib.IntN.{nat_abs}
use lib.Ieee.{Float, nan}
use Rattle.grid.specs.Grid.{sixty_fourths}
use borrow.Author.Count.{below_more}
use Rattle.flex.specs.declared.Item.{Item}
use Rattle.lists.specs.Cells.{each}
use Rattle.lists.proofs.Each.{each_ext}
use Rattle.grid.specs.Floats.{◌⊕◌, nought}
use Rattle.flex_table.specs.Table.{no_item, item_in}
use Rattle.flex.specs.Flex.{Cell, sum_from, total, left, unfrozen, outer_units, outer_sum}

-- ---- sums

sum_snoc : {A : Type 0} (s : Float) (f : A → Float) (l : List A) (a : A) → sum_from s f (l ++ (a ∷ [])) ≡ sum_from s f l ⊕ f a
unfolding sum_from
sum_snoc s f [] a = refl
sum_snoc s f (b ∷ l) a = sum_snoc (s ⊕ f b) f l a

pub total-none : {A : Type 0} (f : A → Float) (c : ℕ → A) → total f (each 0 c) ≡ nought
unfolding each sum_from
total-none f c = refl

pub total_next : {A : Type 0} (f : A → Float) (c : ℕ → A) (n : ℕ) → total f (each (n + 1) c) ≡ total f (each n c) ⊕ f (c n)
unfolding each
total_next f c n = ap (λ (k : ℕ). total f (each k c)) (add-one n) ∙ sum_snoc nought f (each n c) (c n)

left_snoc : (l : List Cell) (c : Cell) → left (l ++ (c ∷ [])) ≡ left l ++ cond c.frozen [] (c ∷ [])
unfolding left
left_snoc [] c = go c.frozen
  where
    go : (b : Bool) → cond b [] (c ∷ []) ≡ [] ++ cond b [] (c ∷ [])
    go true = refl
    go false = refl
left_snoc (d ∷ l) c = go d.frozen (left_snoc l c)
  where
    go : (b : Bool) → left (l ++ (c ∷ [])) ≡ left l ++ cond c.frozen [] (c ∷ []) → cond b (left (l ++ (c ∷ []))) (d ∷ left (l ++ (c ∷ []))) ≡ cond b (left l) (d ∷ left l) ++ cond c.frozen [] (c ∷ [])
    go true e = e
    go false e = ap (λ (r : List Cell). d ∷ r) e

left_next : (c : ℕ → Cell) (n : ℕ) → left (each (n + 1) c) ≡ left (each n c) ++ cond (c n).frozen [] (c n ∷ [])
unfolding each
left_next c n = ap (λ (k : ℕ). left (each k c)) (add-one n) ∙ left_snoc (each n c) (c n)

pub left-none : (f : Cell → Float) (c : ℕ → Cell) → total f (left (each 0 c)) ≡ nought
unfolding each sum_from left
left-none f c = refl

-- the sum over the unfrozen, with one more cell
pub left-sum : (f : Cell → Float) (c : ℕ → Cell) (n : ℕ) (s : Float) → s ≡ total f (left (each n c)) → cond (c n).frozen s (s ⊕ f (c n)) ≡ total f (left (each (n + 1) c))
left-sum f c n s h =
    ap (λ (x : Float). cond (c n).frozen x (x ⊕ f (c n))) h
    ∙ go (c n).frozen
    ∙ ap (λ (l : List Cell). total f l) (sym (left_next c n))
  where
    go : (b : Bool) → cond b (total f (left (each n c))) (total f (left (each n c)) ⊕ f (c n)) ≡ total f (left (each n c) ++ cond b [] (c n ∷ []))
    go true = ap (λ (l : List Cell). total f l) (sym (append-nil (left (each n c))))
    go false = sym (sum_snoc nought f (left (each n c)) (c n))

pub unfrozen-none : (c : ℕ → Cell) → unfrozen (each 0 c) ≡ 0
unfolding each left
unfrozen-none c = refl

pub unfrozen_next : (c : ℕ → Cell) (n k : ℕ) → k ≡ unfrozen (each n c) → cond (c n).frozen k (k + 1) ≡ unfrozen (each (n + 1) c)
unfrozen_next c n k h =
    ap (λ (x : ℕ). cond (c n).frozen x (x + 1)) h
    ∙ go (c n).frozen
    ∙ ap (λ (l : List Cell). length l) (sym (left_next c n))
  where
    go : (b : Bool) → cond b (unfrozen (each n c)) (unfrozen (each n c) + 1) ≡ length (left (each n c) ++ cond b [] (c n ∷ []))
    go true = ap (λ (l : List Cell). length l) (sym (append-nil (left (each n c))))
    go false = sym (length-append (left (each n c)) (c n ∷ []))

pub total_take : (f : Item → Float) (l : List Item) (i : ℕ) → i < length l → total f (take (i + 1) l) ≡ total f (take i l) ⊕ f (item_in l i)
total_take f l i h = ap (λ k. total f (take k l)) (add-one i) ∙ ap (total f) (take-suc l i no_item h) ∙ sum_snoc nought f (take i l) (item_in l i)

-- ---- the sum of check 6

pub outer-none : (gap : Float) (g : ℕ → Item) → outer_sum gap (each 0 g) ≡ 0
unfolding each outer_sum
outer-none gap g = refl

pub outer_snoc : (gap : Float) (l : List Item) (it : Item) → outer_sum gap (l ++ (it ∷ [])) ≡ outer_sum gap l + (nat_abs (outer_units it) + nat_abs (sixty_fourths gap))
unfolding outer_sum
outer_snoc gap [] it = omega arith
outer_snoc gap (x ∷ l) it = omega (arith, outer_snoc gap l it)

pub outer_next : (gap : Float) (l : List Item) (i : ℕ) → i < length l → outer_sum gap (take (i + 1) l) ≡ outer_sum gap (take i l) + (nat_abs (outer_units (item_in l i)) + nat_abs (sixty_fourths gap))
outer_next gap l i h = ap (λ k. outer_sum gap (take k l)) (add-one i) ∙ ap (outer_sum gap) (take-suc l i no_item h) ∙ outer_snoc gap (take i l) (item_in l i)

-- ---- a turn of a loop that sums

pub sum_turn : {A : Type 0} (f : A → Float) (g : ℕ → A) (n : ℕ) (s r : Float) → s ≡ total f (each n g) → r ≡ f (g n) → s ⊕ r ≡ total f (each (n + 1) g)
sum_turn f g n s r p q = ap₂ (λ (x y : Float). x ⊕ y) p q ∙ sym (total_next f g n)

pub left_turn : (f : Cell → Float) (g : ℕ → Cell) (n : ℕ) (s r : Float) → (g n).frozen ≡ false → s ≡ total f (left (each n g)) → r ≡ f (g n) → s ⊕ r ≡ total f (left (each (n + 1) g))
left_turn f g n s r b p q = ap (λ (x : Float). s ⊕ x) q ∙ ap (λ (t : Bool). cond t s (s ⊕ f (g n))) (sym b) ∙ left-sum f g n s p

pub left_pass : (f : Cell → Float) (g : ℕ → Cell) (n : ℕ) (s : Float) → (g n).frozen ≡ true → s ≡ total f (left (each n g)) → s ≡ total f (left (each (n + 1) g))
left_pass f g n s b p = ap (λ (t : Bool). cond t s (s ⊕ f (g n))) (sym b) ∙ left-sum f g n s p

-- ---- a loop that rewrites the marks and the targets: the first i cells are as wanted, the others as they were

abbrev pub put : Item → Bool → Float → Cell
put it b x = record { item = it; frozen = b; target = x }

abbrev pub cell : (ℕ → Item) → List Bool → List Float → ℕ → Cell
cell item frozen targets k = put (item k) (get_or frozen k false) (get_or targets k nan)

pub record Turned (n : ℕ) (want : ℕ → Cell) (item : ℕ → Item) (frozen₀ : List Bool) (targets₀ : List Float) (frozen : List Bool) (targets : List Float) (i : ℕ) : Type 0 where
  pub inside : i ≤ n
  pub marks : length frozen ≡ length frozen₀
  pub long : length targets ≡ length targets₀
  pub done : (k : ℕ) → k < i → cell item frozen targets k ≡ want k
  pub flags : (k : ℕ) → i ≤ k → get_or frozen k false ≡ get_or frozen₀ k false
  pub rest : (k : ℕ) → i ≤ k → get_or targets k nan ≡ get_or targets₀ k nan

module _ {n : ℕ} {want : ℕ → Cell} {item : ℕ → Item} {frozen₀ : List Bool} {targets₀ : List Float} {frozen : List Bool} {targets : List Float} {i : ℕ} (t : Turned n want item frozen₀ targets₀ frozen targets i) where
  -- a cell of which the target is written
  pub turned_size : i < n → n ≤ length targets₀ → (x : Float) → put (item i) (get_or frozen₀ i false) x ≡ want i → Turned n want item frozen₀ targets₀ frozen (set targets i x) (i + 1)
  turned_size h nx x e =
      let lx : i < length targets = omega (arith, t.long) in
      record {
        inside = omega arith;
        marks = t.marks;
        long = length-set targets i x ∙ t.long;
        done = below_more (λ k. cell item frozen (set targets i x) k ≡ want k) i
            (λ k l. ap (λ y. put (item k) (get_or frozen k false) y) (get_or-set_other targets i k x nan (ne_of_lt l)) ∙ t.done k l)
            (ap₂ (λ c y. put (item i) c y) (t.flags i (le_refl i)) (get_or-set_same targets i x nan lx) ∙ e);
        flags = λ k l. t.flags k (omega arith);
        rest = λ k l. get_or-set_other targets i k x nan (ne_of_gt (lt_of_lt_of_le (lt-add-one i) l)) ∙ t.rest k (le_of_lt (lt_of_lt_of_le (lt-add-one i) l));
      }

  pub turned_all : n ≤ i → each n (cell item frozen targets) ≡ each n want
  turned_all h = each_ext n (cell item frozen targets) want (λ k l. t.done k (lt_of_lt_of_le l h))
