-- Cells that a loop fills, one a turn: its start, its turns, and what it leaves, cell by cell. Assumes nothing.
use mathlib.Core.Path.{◌≡◌, refl, sym, ap, ap₂, ◌∙◌}
use mathlib.Core.List.{List, [], ◌∷◌, ◌++◌, append-nil, append_assoc}
use Prim.Native.Nat.{ℕ, suc, ◌+◌, ◌-◌, ◌≤◌, ◌<◌}
use native.Mathlib.Nat.{le_refl, sub_self, sub-zero, add-sub_of_le, le_antisymm}
use native.Mathlib.Numerals.{add-one}
use native.Mathlib.Omega.{arith}
use lib.ListN.{length, get_or, take, drop, set, replicate, length-set, length-append, length-drop, length-replicate, get_or-replicate, drop_of_length-le, replicate-append-replicate, take-append-drop, get_or-append}
use lib.Seq.{drop-cons, drop-drop, length-take-le, set_at, take_at, drop-append-add, get_or-take, get_or-drop, get_or-append-add}
use Rattle.lists.specs.Cells.{filled}

-- a loop that sets one cell a turn, for cells of any type
module _ {A : Type 0} (z : A) where
  pub fill_none : (from : ℕ) (l : List A) → l ≡ filled z from from l
  fill_none from l = sym (take-append-drop from l) ∙ ap (λ (k : ℕ). take from l ++ (replicate k z ++ drop from l)) (sym (sub_self from))

  pub fill_more : (from i : ℕ) (l cells : List A) → from ≤ i → i < length l → cells ≡ filled z from i l → set cells i z ≡ filled z from (i + 1) l
  fill_more from i l cells h k e =
      ap (λ (t : List A). set t i z) (e ∙ ap (λ (t : List A). take from l ++ (replicate (i - from) z ++ t)) (drop-cons l i z k) ∙ sym (append_assoc (take from l) (replicate (i - from) z) (get_or l i z ∷ drop (suc i) l)))
      ∙ set_at (take from l ++ replicate (i - from) z) (get_or l i z) (drop (suc i) l) z i size
      ∙ append_assoc (take from l) (replicate (i - from) z) (z ∷ drop (suc i) l)
      ∙ ap (λ (t : List A). take from l ++ t)
      (sym (append_assoc (replicate (i - from) z) (z ∷ []) (drop (suc i) l))
      ∙ ap₂ (λ (t r : List A). t ++ r) (replicate-append-replicate (i - from) 1 z ∙ ap (λ (m : ℕ). replicate m z) more) (ap (λ (m : ℕ). drop m l) (sym (add-one i))))
    where
      size : length (take from l ++ replicate (i - from) z) ≡ i
      size = omega (arith, length-append (take from l) (replicate (i - from) z), length-take-le from l (omega arith), length-replicate {A = A} (i - from) z)

      more : i - from + 1 ≡ i + 1 - from
      more = omega arith

-- ---- the loop: it has filled the cells from `from` up to i

pub record Filling {A : Type 0} (z : A) (from to : ℕ) (before cells : List A) (i : ℕ) : Type 0 where
  pub above : from ≤ i
  pub inside : i ≤ to
  pub long : length cells ≡ length before
  pub now : cells ≡ filled z from i before

module _ {A : Type 0} (z : A) {from to : ℕ} (before : List A) where
  pub filling_none : from ≤ to → Filling z from to before before from
  filling_none h = record { above = le_refl from; inside = h; long = refl; now = fill_none z from before }

  pub filling_more : {cells : List A} {i : ℕ} → i < to → to ≤ length before → Filling z from to before cells i → Filling z from to before (set cells i z) (i + 1)
  filling_more {cells} {i} h room f = record {
    above = omega (arith, f.above);
    inside = omega arith;
    long = length-set cells i z ∙ f.long;
    now = fill_more z from i before cells f.above (omega arith) f.now;
  }

  pub filling_all : {cells : List A} {i : ℕ} → to ≤ i → Filling z from to before cells i → cells ≡ filled z from to before
  filling_all {cells} {i} h f = f.now ∙ ap (λ (k : ℕ). filled z from k before) (le_antisymm f.inside h)

-- ---- what is left, cell by cell

module _ {A : Type 0} (z : A) {from to : ℕ} (l : List A) (h : from ≤ to) (room : to ≤ length l) where
  front_long : length (take from l) ≡ from
  front_long = length-take-le from l (omega arith)

  pub filled_long : length (filled z from to l) ≡ length l
  filled_long = omega (arith, length-append (take from l) (replicate (to - from) z ++ drop to l), length-append (replicate (to - from) z) (drop to l), length-replicate {A = A} (to - from) z, length-drop to l, front_long)

  pub filled_before : (d : A) (j : ℕ) → j < from → get_or (filled z from to l) j d ≡ get_or l j d
  filled_before d j k = get_or-append (take from l) (replicate (to - from) z ++ drop to l) d j (omega (arith, front_long)) ∙ get_or-take from l j d k

  -- cell j counted from the first one that is filled
  from_there : (d : A) (j : ℕ) → from ≤ j → get_or (filled z from to l) j d ≡ get_or (replicate (to - from) z ++ drop to l) (j - from) d
  from_there d j k =
      let e : j ≡ length (take from l) + (j - from) = omega (arith, front_long) in
      ap (λ (i : ℕ). get_or (filled z from to l) i d) e ∙ get_or-append-add (take from l) (replicate (to - from) z ++ drop to l) (j - from) d

  pub filled_inside : (d : A) (j : ℕ) → from ≤ j → j < to → get_or (filled z from to l) j d ≡ z
  filled_inside d j k m =
      from_there d j k
      ∙ get_or-append (replicate (to - from) z) (drop to l) d (j - from) (omega (arith, length-replicate {A = A} (to - from) z))
      ∙ get_or-replicate (to - from) (j - from) z d (omega arith)

  pub filled_past : (d : A) (j : ℕ) → to ≤ j → get_or (filled z from to l) j d ≡ get_or l j d
  filled_past d j k =
      let e : j - from ≡ length (replicate (to - from) z) + (j - to) = omega (arith, length-replicate {A = A} (to - from) z) in
      let f : to + (j - to) ≡ j = omega arith in
      from_there d j (omega arith)
      ∙ ap (λ (i : ℕ). get_or (replicate (to - from) z ++ drop to l) i d) e
      ∙ get_or-append-add (replicate (to - from) z) (drop to l) (j - to) d
      ∙ get_or-drop to l (j - to) d
      ∙ ap (λ (i : ℕ). get_or l i d) f

-- ---- to the last cell, and from the first

pub fill_rest : {A : Type 0} (z : A) (from n : ℕ) (l : List A) → length l ≡ n → filled z from n l ≡ take from l ++ replicate (n - from) z
fill_rest {A} z from n l e = ap (λ (r : List A). take from l ++ (replicate (n - from) z ++ r)) (drop_of_length-le l {i = n} (omega arith)) ∙ ap (λ (r : List A). take from l ++ r) (append-nil (replicate (n - from) z))

pub fill_whole : {A : Type 0} (z : A) (n : ℕ) (l : List A) → n ≡ length l → filled z 0 n l ≡ replicate (length l) z
fill_whole {A} z n l e = fill_rest z 0 n l (sym e) ∙ ap (λ (k : ℕ). replicate k z) (sub-zero n ∙ e)

-- more cells of a list that is filled at its front

pub fill_on : {A : Type 0} (z : A) (from to : ℕ) (before : List A) → from ≤ to → filled z from to (replicate from z ++ drop from before) ≡ replicate to z ++ drop to before
fill_on {A} z from to before h =
    ap₂ (λ (t r : List A). t ++ (replicate (to - from) z ++ r)) (take_at (replicate from z) (drop from before) from (length-replicate from z)) past
    ∙ sym (append_assoc (replicate from z) (replicate (to - from) z) (drop to before))
    ∙ ap (λ (t : List A). t ++ drop to before) (replicate-append-replicate from (to - from) z ∙ ap (λ (k : ℕ). replicate k z) (add-sub_of_le h))
  where
    past : drop to (replicate from z ++ drop from before) ≡ drop to before
    past =
        ap (λ (k : ℕ). drop k (replicate from z ++ drop from before)) (sym (add-sub_of_le h) ∙ ap (λ (k : ℕ). k + (to - from)) (sym (length-replicate from z)))
        ∙ drop-append-add (replicate from z) (drop from before) (to - from)
        ∙ drop-drop (to - from) from before
        ∙ ap (λ (k : ℕ). drop k before) (add-sub_of_le h)
