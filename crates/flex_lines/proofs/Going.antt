-- The loop over lines: the lines before this one are flexed and outlive a later line's cells, by the order of their ranges. Assumes nothing.
use mathlib.Core.Path.{◌≡◌, refl, sym, ap, ap₂, ◌∙◌, subst}
use mathlib.Core.List.{List, [], ◌++◌}
use Prim.Native.Nat.{ℕ, zero, suc, ◌+◌, ◌-◌, ◌≤◌, ◌<◌, zero-le}
use native.Mathlib.Nat.{le_trans, zero-add, ne_of_lt, ne_of_gt, le_antisymm}
use native.Mathlib.Omega.{arith}
use lib.ListN.{length, get_or, take, drop, set, length-set, drop_of_length-le}
use lib.Seq.{get_or-set_same, get_or-set_other, drop-nil}
use lib.IntN.{ℤ, pos}
use lib.Ieee.{Float}
use borrow.Author.Count.{below_none, below_more}
use borrow.Rule.Slice.PartMut.{mid_of, put_mid, same_len_mid, mid_len, drop_put}
use Rattle.lists.specs.Cells.{sum_up_to, each, filled}
use Rattle.lists.proofs.UpTo.{sum-none, sum_more, sum_ext, sum_past}
use Rattle.flex.specs.declared.Item.{Item}
use Rattle.flex.specs.Flex.{outer_sum, Flexed, targets as targetsOf}
use Rattle.flex.specs.Accepted.{Accepted}
use Rattle.flex_table.specs.Table.{item_in, items_in}
use Rattle.lists.specs.ByLine.{line_start, part}
use Rattle.flex_lines.specs.Lines.{line_items, Beyond, FlexedLines}
use Rattle.flex_lines.specs.Parts.{LinesDivided, Lined, Ahead, Flowed}
use Rattle.lists.proofs.ByLine.{other_cells, own_cells, later}
use Rattle.lists.proofs.Filling.{filled_long, filled_before, filled_inside, filled_past}
use Rattle.lists.proofs.Each.{length-each, each_ext}
use Rattle.flex_table.proofs.Each.{outer_snoc}
use Rattle.flex_table.proofs.Items.{every-each, part_items}

-- ---- the ranges

-- lines that are not empty are no more than their items
pub lines_few : (f : ℕ → ℕ) (n : ℕ) → ((j : ℕ) → j < n → 0 < f j) → n ≤ sum_up_to f n
unfolding sum_up_to
lines_few f zero h = zero-le
lines_few f (suc n) h = omega (arith, lines_few f n (λ j l. h j (omega arith)), h n (omega arith))

pub counts_few : (inner gap : Float) (t : List Item) (n : ℕ) (counts : List ℕ) (targets : List Float) (free : List ℤ) (rounds : List ℕ) → LinesDivided inner gap t n counts targets free rounds → length counts ≤ n
counts_few inner gap t n counts targets free rounds pre = subst (λ (k : ℕ). length counts ≤ k) pre.whole (lines_few (λ i. get_or counts i 0) (length counts) pre.positive)

-- ---- a line's items are accepted

outer_parts : (gap : Float) (g : ℕ → Item) (a c : ℕ) → outer_sum gap (each (a + c) g) ≡ outer_sum gap (each a g) + outer_sum gap (each c (λ i. g (a + i)))
unfolding each outer_sum
outer_parts gap g a zero = let e : a + 0 ≡ a = omega arith in ap (λ (k : ℕ). outer_sum gap (each k g)) e ∙ omega arith
outer_parts gap g a (suc c) =
    let e : a + suc c ≡ suc (a + c) = omega arith in
    let p = outer_snoc gap (each (a + c) g) (g (a + c)) in
    let q = outer_snoc gap (each c (λ i. g (a + i))) (g (a + c)) in
    ap (λ (k : ℕ). outer_sum gap (each k g)) e ∙ p ∙ omega (arith, outer_parts gap g a c, q)

outer_line : (gap : Float) (g : ℕ → Item) (a c n : ℕ) → a + c ≤ n → outer_sum gap (each c (λ i. g (a + i))) ≤ outer_sum gap (each n g)
outer_line gap g a c n h =
    let e : a + c + (n - (a + c)) ≡ n = omega arith in
    let p = outer_parts gap g (a + c) (n - (a + c)) in
    let q = outer_parts gap g a c in
    subst (λ (k : ℕ). outer_sum gap (each c (λ i. g (a + i))) ≤ outer_sum gap (each k g)) e (omega (arith, p, q))

module _ {inner gap : Float} {t : List Item} {n : ℕ} {counts : List ℕ} {targets : List Float} {free : List ℤ} {rounds : List ℕ} (pre : Lined inner gap t n counts targets free rounds) where
  pub accepted_line : (a c : ℕ) → a + c ≤ n → Accepted inner gap (items_in t a c)
  accepted_line a c h = record {
    inner_is = pre.divided.inner_is;
    gap_is = pre.divided.gap_is;
    items_are = every-each c (λ i. item_in t (a + i)) (λ i l. pre.divided.tabled (a + i) (omega arith));
    within = le_trans (subst (λ (l : List Item). outer_sum gap l ≤ outer_sum gap (items_in t 0 n)) (each_ext c (λ i. item_in t (0 + (a + i))) (λ i. item_in t (a + i)) (λ i l. ap (item_in t) (zero-add (a + i)))) (outer_line gap (λ i. item_in t (0 + i)) a c n h)) pre.within;
  }

  pub line_ends : (j : ℕ) → j < length counts → line_start counts j + get_or counts j 0 ≤ n
  line_ends j h = subst (λ (k : ℕ). line_start counts j + get_or counts j 0 ≤ k) pre.divided.whole (sum_past (λ i. get_or counts i 0) j (length counts) h)

  pub lines_within : length counts ≤ n
  lines_within = counts_few inner gap t n counts targets free rounds pre.divided

-- ---- a line that is flexed, by equals

pub flexed_as : (inner gap : Float) (items items' : List Item) (f f' : ℤ) (r r' : ℕ) (old old' new new' : List Float) → items ≡ items' → f ≡ f' → r ≡ r' → drop (length items) old ≡ drop (length items) old' → new ≡ new' → Flexed inner gap items f r old new → Flexed inner gap items' f' r' old' new'
flexed_as inner gap items items' f f' r r' old old' new new' ei ef er eo en p =
    subst (λ (l : List Item). Flexed inner gap l f' r' old' new') ei
    (subst (λ (k : ℕ). Flexed inner gap items f' k old' new') er
    (record { space = sym ef ∙ p.space; number = p.number; few = p.few; cells = sym en ∙ p.cells ∙ ap (λ (l : List Float). targetsOf inner gap items r ++ l) eo }))

-- ---- the loop

pub record Going (inner gap : Float) (item : ℕ → Item) (counts : List ℕ) (targets₀ : List Float) (free₀ : List ℤ) (rounds₀ : List ℕ) (targets : List Float) (free : List ℤ) (rounds : List ℕ) (sum start line : ℕ) : Type 0 where
  pub here : start ≡ line_start counts line
  pub inside : line ≤ length counts
  pub less : sum ≤ start
  pub flowed : Flowed inner gap item counts line sum targets₀ free₀ rounds₀ targets free rounds

ahead_next : {A : Type 0} (none : A) (k : ℕ) (old new : List A) (v : A) → Ahead none k old new → Ahead none (k + 1) old (set new k v)
ahead_next none k old new v p = record { long = length-set new k v ∙ p.long; rest = λ j h. get_or-set_other new k j v none (ne_of_gt (omega arith)) ∙ p.rest j (omega arith) }

module _ {inner gap : Float} {item : ℕ → Item} {counts : List ℕ} {targets₀ : List Float} {free₀ : List ℤ} {rounds₀ : List ℕ} where
  pub going_none : Going inner gap item counts targets₀ free₀ rounds₀ targets₀ free₀ rounds₀ 0 0 0
  going_none = record {
    here = sym (sum-none (λ i. get_or counts i 0));
    inside = zero-le;
    less = zero-le;
    flowed = record {
      line = below_none (λ (j : ℕ). Flexed inner gap (line_items item counts j) (get_or free₀ j (pos 0)) (get_or rounds₀ j 0) [] (part counts j targets₀));
      sum_is = sym (sum-none (λ j. get_or rounds₀ j 0));
      long = refl;
      past = refl;
      free_past = record { long = refl; rest = λ j h. refl };
      rounds_past = record { long = refl; rest = λ j h. refl };
    };
  }

  module _ {targets : List Float} {free : List ℤ} {rounds : List ℕ} {sum start line : ℕ} (g : Going inner gap item counts targets₀ free₀ rounds₀ targets free rounds sum start line) where
    -- one line more
    pub going_next : {e : ℕ} {cells : List Float} {f : ℤ} {r : ℕ} → line < length counts → e ≡ start + get_or counts line 0 → e ≤ length targets → line < length free → line < length rounds → length cells ≡ e - start
        → Flexed inner gap (each (get_or counts line 0) (λ i. item (start + i))) f r (mid_of start (e - start) targets) cells
        → Going inner gap item counts targets₀ free₀ rounds₀ (put_mid start (e - start) targets cells) (set free line f) (set rounds line r) (sum + r) e (line + 1)
    going_next {e} {cells} {f} {r} h q room lf lr lp p =
        let now' : List Float = put_mid start (e - start) targets cells in
        let free' : List ℤ = set free line f in
        let rounds' : List ℕ = set rounds line r in
        let c : ℕ = get_or counts line 0 in
        let it : ℕ → Item = λ i. item (start + i) in
        let next : e ≡ line_start counts (line + 1) = q ∙ ap (λ (k : ℕ). k + c) g.here ∙ sym (sum_more (λ i. get_or counts i 0) line) in
        let le : length (each c it) ≡ c = length-each c it in
        let few : r ≤ c = subst (λ (k : ℕ). r ≤ k) le p.few in
        record {
          here = next;
          inside = omega arith;
          less = omega (arith, g.less);
          flowed = record {
            line = below_more (λ (j : ℕ). Flexed inner gap (line_items item counts j) (get_or free' j (pos 0)) (get_or rounds' j 0) [] (part counts j now')) line
                (λ j l. flexed_as inner gap _ _ _ _ _ _ [] [] _ _ refl (sym (get_or-set_other free line j f (pos 0) (ne_of_lt l))) (sym (get_or-set_other rounds line j r 0 (ne_of_lt l))) refl
                (sym (other_cells (line_start counts j) (get_or counts j 0) start e targets cells (subst (λ (k : ℕ). line_start counts j + get_or counts j 0 ≤ k) (sym g.here) (sum_past (λ i. get_or counts i 0) j line l)) (omega arith) room lp))
                (g.flowed.line j l))
                (flexed_as inner gap _ _ _ _ _ _ (mid_of start (e - start) targets) [] _ _
                (ap (λ (k : ℕ). each c (λ i. item (k + i))) g.here)
                (sym (get_or-set_same free line f (pos 0) lf)) (sym (get_or-set_same rounds line r 0 lr))
                (drop_of_length-le (mid_of start (e - start) targets) {i = length (each c it)} (omega (arith, mid_len start e targets room)) ∙ sym (drop-nil (length (each c it))))
                (sym (ap (λ (k : ℕ). take c (drop k now')) (sym g.here) ∙ own_cells start c e targets cells q room lp))
                p);
            sum_is =
                ap₂ (λ (a b : ℕ). a + b) (g.flowed.sum_is ∙ sum_ext (λ j. get_or rounds j 0) (λ j. get_or rounds' j 0) line (λ j l. sym (get_or-set_other rounds line j r 0 (ne_of_lt l)))) (sym (get_or-set_same rounds line r 0 lr))
                ∙ sym (sum_more (λ j. get_or rounds' j 0) line);
            long = same_len_mid start (e - start) targets cells (lp ∙ sym (mid_len start e targets room)) ∙ g.flowed.long;
            past =
                ap (λ (k : ℕ). drop k now') (sym next) ∙ drop_put start e targets cells (omega arith) room lp
                ∙ later (line_start counts line) e targets targets₀ (subst (λ (k : ℕ). k ≤ e) g.here (omega arith)) g.flowed.past
                ∙ ap (λ (k : ℕ). drop k targets₀) next;
            free_past = ahead_next (pos 0) line free₀ free f g.flowed.free_past;
            rounds_past = ahead_next 0 line rounds₀ rounds r g.flowed.rounds_past;
          };
        }

    -- all lines
    pub going_all : length counts ≤ line → Flowed inner gap item counts (length counts) sum targets₀ free₀ rounds₀ targets free rounds
    going_all h = subst (λ (k : ℕ). Flowed inner gap item counts k sum targets₀ free₀ rounds₀ targets free rounds) (le_antisymm g.inside h) g.flowed

-- what a turn may use: the line's range lies inside every list, and its items are accepted
pub record Turn (inner gap : Float) (t : List Item) (start c line sum : ℕ) (targets : List Float) (free : List ℤ) (rounds : List ℕ) : Type 0 where
  pub inside : start + c ≤ length t
  pub few : start + c ≤ 1024
  pub part_is : take (start + c - start) (drop start t) ≡ items_in t start c
  pub part_long : length (take (start + c - start) (drop start t)) ≡ c
  pub accepted : Accepted inner gap (take (start + c - start) (drop start t))
  pub room : start + c ≤ length targets
  pub free_room : line < length free
  pub rounds_room : line < length rounds
  pub less : sum ≤ start

module _ {inner gap : Float} {t : List Item} {n : ℕ} {counts : List ℕ} {targets₀ : List Float} {free₀ : List ℤ} {rounds₀ : List ℕ} (pre : Lined inner gap t n counts targets₀ free₀ rounds₀) where
  module _ {targets : List Float} {free : List ℤ} {rounds : List ℕ} {sum start line : ℕ} (g : Going inner gap (item_in t) counts targets₀ free₀ rounds₀ targets free rounds sum start line) (h : line < length counts) where
    pub turn_of : Turn inner gap t start (get_or counts line 0) line sum targets free rounds
    turn_of =
        let c = get_or counts line 0 in
        let l = lines_within pre in
        let ends : start + c ≤ n = subst (λ k. k + c ≤ n) (sym g.here) (line_ends pre line h) in
        let k : start + c - start ≡ c = omega arith in
        let e = ap (λ i. take i (drop start t)) k ∙ part_items t start c (omega (arith, pre.divided.wide.1)) in
        record {
          inside = omega (arith, pre.divided.wide.1);
          few = omega (arith, pre.divided.wide.0);
          part_is = e;
          part_long = ap length e ∙ length-each c (λ i. item_in t (start + i));
          accepted = subst (Accepted inner gap) (sym e) (accepted_line pre start c ends);
          room = omega (arith, pre.divided.room, g.flowed.long);
          free_room = omega (arith, l, pre.divided.free_room, g.flowed.free_past.long);
          rounds_room = omega (arith, l, pre.divided.rounds_room, g.flowed.rounds_past.long);
          less = g.less;
        }

-- ---- all cells

module _ {A : Type 0} (none : A) {k n : ℕ} (mid : List A) {new : List A} (h : k ≤ n) (room : n ≤ length mid) (e : new ≡ filled none k n mid) where
  front : (j : ℕ) → j < k → get_or mid j none ≡ get_or new j none
  front j l = sym (ap (λ (x : List A). get_or x j none) e ∙ filled_before none mid h room none j l)

  beyond : (old : List A) → Ahead none k old mid → Beyond none k n old new
  beyond old p = subst (λ (x : List A). Beyond none k n old x) (sym e) (record {
    long = filled_long none mid h room ∙ p.long;
    zeros = filled_inside none mid h room none;
    kept = λ j l. filled_past none mid h room none j l ∙ p.rest j (le_trans h l);
  })

module _ {inner gap : Float} {item : ℕ → Item} {n : ℕ} {counts : List ℕ} {sum : ℕ} {targets₀ : List Float} {free₀ : List ℤ} {rounds₀ : List ℕ} {targets : List Float} {free free' : List ℤ} {rounds rounds' : List ℕ} where
  pub lines_flexed : line_start counts (length counts) ≡ n → length counts ≤ n → n ≤ length free₀ → n ≤ length rounds₀ → Flowed inner gap item counts (length counts) sum targets₀ free₀ rounds₀ targets free rounds
      → free' ≡ filled (pos 0) (length counts) n free → rounds' ≡ filled 0 (length counts) n rounds → FlexedLines inner gap item n counts sum targets₀ free₀ rounds₀ targets free' rounds'
  lines_flexed w k free_room rounds_room p f r =
      let a : n ≤ length free = omega (arith, p.free_past.long) in
      let b : n ≤ length rounds = omega (arith, p.rounds_past.long) in
      record {
        line = λ j l. flexed_as inner gap _ _ _ _ _ _ [] [] _ _ refl (front (pos 0) free k a f j l) (front 0 rounds k b r j l) refl refl (p.line j l);
        sum_is = p.sum_is ∙ sum_ext (λ j. get_or rounds j 0) (λ j. get_or rounds' j 0) (length counts) (front 0 rounds k b r);
        long = p.long;
        past = subst (λ (i : ℕ). drop i targets ≡ drop i targets₀) w p.past;
        free_past = beyond (pos 0) free k a f free₀ p.free_past;
        rounds_past = beyond 0 rounds k b r rounds₀ p.rounds_past;
      }

-- lines of the same items
pub lines_as : (inner gap : Float) (item item' : ℕ → Item) (n : ℕ) (counts : List ℕ) (sum : ℕ) (targets₀ : List Float) (free₀ : List ℤ) (rounds₀ : List ℕ) (targets : List Float) (free : List ℤ) (rounds : List ℕ) → line_start counts (length counts) ≡ n → ((i : ℕ) → i < n → item i ≡ item' i)
    → FlexedLines inner gap item n counts sum targets₀ free₀ rounds₀ targets free rounds → FlexedLines inner gap item' n counts sum targets₀ free₀ rounds₀ targets free rounds
lines_as inner gap item item' n counts sum targets₀ free₀ rounds₀ targets free rounds w h p = record {
  line = λ j l.
      let e = sum_past (λ i. get_or counts i 0) j (length counts) l in
      flexed_as inner gap _ _ _ _ _ _ [] [] _ _ (each_ext (get_or counts j 0) (λ i. item (line_start counts j + i)) (λ i. item' (line_start counts j + i)) (λ i m. h (line_start counts j + i) (omega arith))) refl refl refl refl (p.line j l);
  sum_is = p.sum_is;
  long = p.long;
  past = p.past;
  free_past = p.free_past;
  rounds_past = p.rounds_past;
}
