-- A walk over the lines that writes each line's part of a lent list: those written outlive the later ones, by the order of their ranges. Assumes nothing.
use mathlib.Core.Path.{◌≡◌, refl, sym, ap, ap₂, ◌∙◌, subst}
use mathlib.Core.List.{List, [], ◌++◌}
use Prim.Native.Nat.{ℕ, ◌+◌, ◌-◌, ◌≤◌, ◌<◌}
use native.Mathlib.Nat.{le_antisymm}
use native.Mathlib.Omega.{arith}
use lib.ListN.{length, get_or, take, drop, take-append-drop, drop_of_length-le}
use lib.Seq.{drop-nil}
use borrow.Rule.Slice.PartMut.{mid_of, put_mid, same_len_mid, mid_len, drop_put}
use Rattle.lists.proofs.UpTo.{sum-none, sum_more, sum_past}
use Rattle.lists.proofs.ByLine.{other_cells, own_cells, later, by_parts}
use Rattle.lists.specs.Cells.{each, overwritten, Past}
use Rattle.lists.specs.ByLine.{line_start, part, Division}

-- ---- the ranges

-- where line j is, and what its range comes to
pub record Here (counts : List ℕ) (from to j : ℕ) : Type 0 where
  pub starts : from ≡ line_start counts j
  pub ends : to ≡ from + get_or counts j 0

pub start_none : (counts : List ℕ) → 0 ≡ line_start counts 0
start_none counts = sym (sum-none (λ i. get_or counts i 0))

pub start_next : (counts : List ℕ) {from to j : ℕ} → Here counts from to j → to ≡ line_start counts (j + 1)
start_next counts {from} {to} {j} h = h.ends ∙ ap (λ (k : ℕ). k + get_or counts j 0) h.starts ∙ sym (sum_more (λ i. get_or counts i 0) j)

-- a line lies within the items
pub ends-within : {counts : List ℕ} {n from to j : ℕ} → Division counts n → j < length counts → Here counts from to j → to ≤ n
ends-within {counts} {n} {from} {to} {j} d h l = subst (λ (k : ℕ). to ≤ k) d (subst (λ (k : ℕ). k ≤ line_start counts (length counts)) (sym (l.ends ∙ ap (λ (k : ℕ). k + get_or counts j 0) l.starts)) (sum_past (λ i. get_or counts i 0) j (length counts) h))

-- ---- a line's cells

module _ {A : Type 0} where
  -- what the walk lends is the line's part
  pub lent_is : {counts : List ℕ} {from to j : ℕ} → Here counts from to j → (l : List A) → mid_of from (to - from) l ≡ part counts j l
  lent_is {counts} {from} {to} {j} h l =
      let e : to - from ≡ get_or counts j 0 = omega (arith, h.ends) in
      ap₂ (λ (a b : ℕ). take a (drop b l)) e h.starts

-- ---- the walk

-- from line k on a list is as it was
pub record Front {A : Type 0} (counts : List ℕ) (old new : List A) (k : ℕ) : Type 0 where
  pub long : length new ≡ length old
  pub rest : drop (line_start counts k) new ≡ drop (line_start counts k) old

-- a list before and after line k's part was lent: the parts of the lines before it are as they were, and its own is what came back
pub record Step {A : Type 0} (counts : List ℕ) (new cells after : List A) (k : ℕ) : Type 0 where
  pub earlier : (j : ℕ) → j < k → part counts j new ≡ part counts j after
  pub own : cells ≡ part counts k after

module _ {A : Type 0} (counts : List ℕ) where
  pub front-none : (old : List A) → Front counts old old 0
  front-none old = record { long = refl; rest = refl }

  module _ {old new : List A} {from to k : ℕ} (cells : List A) (h : Here counts from to k) (room : to ≤ length old) (l : length cells ≡ length (mid_of from (to - from) new)) (f : Front counts old new k) where
    abbrev after : List A
    after = put_mid from (to - from) new cells

    in_new : to ≤ length new
    in_new = omega (arith, f.long)

    forward : from ≤ to
    forward = omega (arith, h.ends)

    many : length cells ≡ to - from
    many = l ∙ mid_len from to new in_new

    pub step : Step counts new cells after k
    step = record {
      earlier = λ j m. sym (other_cells (line_start counts j) (get_or counts j 0) from to new cells (subst (λ (i : ℕ). line_start counts j + get_or counts j 0 ≤ i) (sym h.starts) (sum_past (λ i. get_or counts i 0) j k m)) forward in_new many);
      own = sym (ap (λ (i : ℕ). take (get_or counts k 0) (drop i after)) (sym h.starts) ∙ own_cells from (get_or counts k 0) to new cells h.ends in_new many);
    }

    pub front_next : Front counts old after (k + 1)
    front_next =
        let next = start_next counts h in
        record {
          long = same_len_mid from (to - from) new cells l ∙ f.long;
          rest =
              ap (λ (i : ℕ). drop i after) (sym next) ∙ drop_put from to new cells forward in_new many
              ∙ later (line_start counts k) to new old (subst (λ (i : ℕ). i ≤ to) h.starts forward) f.rest
              ∙ ap (λ (i : ℕ). drop i old) next;
        }

  -- all lines
  pub past_of : {old new : List A} {n k : ℕ} → Division counts n → k ≤ length counts → length counts ≤ k → Front counts old new k → Past n old new
  past_of {old} {new} w h g f = record { long = f.long; rest = subst (λ (i : ℕ). drop i new ≡ drop i old) (ap (λ (i : ℕ). line_start counts i) (le_antisymm h g) ∙ w) f.rest }

-- ---- lists of one line's parts

-- a stage that writes all cells of a line keeps none of those before it
pub all_cells : {A : Type 0} {n : ℕ} (f : ℕ → A) (old : List A) → length old ≤ n → overwritten n f old ≡ overwritten n f []
all_cells {A} {n} f old h = ap (λ (l : List A). each n f ++ l) (drop_of_length-le old {i = n} h ∙ sym (drop-nil n))

-- every item lies in a line: lists whose parts are the same, and which are as they were past the items, are the same
pub same_parts : {A : Type 0} (counts : List ℕ) {n : ℕ} (old a b : List A) → Division counts n → Past n old a → Past n old b → ((j : ℕ) → j < length counts → part counts j a ≡ part counts j b) → a ≡ b
same_parts {A} counts {n} old a b w p q h =
    sym (take-append-drop n a)
    ∙ ap₂ (λ (x y : List A). x ++ y) (ap (λ (i : ℕ). take i a) (sym w) ∙ by_parts counts (length counts) a b h ∙ ap (λ (i : ℕ). take i b) w) (p.rest ∙ sym q.rest)
    ∙ take-append-drop n b
