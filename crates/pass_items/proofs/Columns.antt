-- Items stored one after another are their columns: a list of k · m cells is k columns of m, and storing item i changes cell i of each of them. So
-- after i items a column is i fields, then the cells that it had. Assumes nothing.
use mathlib.Core.Path.{◌≡◌, refl, sym, ◌∙◌, ap, subst}
use Prim.Native.Nat.{ℕ, zero, suc, ◌+◌, ◌-◌, ◌*◌, ◌≤◌, ◌<◌}
use native.Mathlib.Nat.{add_assoc, add_comm, add-zero, zero-add, suc-add, zero-mul, suc-mul, le_refl, not-suc-le-zero, le_of_suc-le-suc}
use native.Mathlib.Omega.{arith}
use mathlib.Core.List.{List, [], ◌∷◌, ◌++◌, map, map-append, append_assoc, append-nil}
use lib.ListN.{length, set, take, drop, get_or, length-set, length-map, length-append, length-drop, take-append-drop, drop_of_length-le}
use lib.Seq.{length-take-le, take-suc, drop-cons, set-append_left, set_at, append_snoc, drop-drop, take_at, drop-append-add, get_or-take}
use Rattle.pass_items.specs.Parts.{stored}
use Rattle.pass_items.proofs.Stored.{length-stored}

module _ {A : Type 0} (m : ℕ) where
  -- a store behind a front leaves the front alone
  set_behind : (p l : List A) (i : ℕ) (v : A) → set (p ++ l) (length p + i) v ≡ p ++ set l i v
  set_behind [] l i v = ap (λ (j : ℕ). set l j v) (zero-add i)
  set_behind (x ∷ p) l i v = ap (λ (j : ℕ). set (x ∷ p ++ l) j v) (suc-add (length p) i) ∙ ap {B = List A} (λ u. x ∷ u) (set_behind p l i v)

  stored_behind : (p l : List A) (at : ℕ) (vs : List A) → stored m (p ++ l) (length p + at) vs ≡ p ++ stored m l at vs
  stored_behind p l at [] = refl
  stored_behind p l at (v ∷ vs) =
      ap (λ (u : List A). stored m u (length p + at + m) vs) (set_behind p l at v) ∙ ap (λ (j : ℕ). stored m (p ++ set l at v) j vs) (add_assoc (length p) at m)
      ∙ stored_behind p (set l at v) (at + m) vs

  -- the first value goes into the first column, the others into the columns after it
  stored-column : (c l : List A) (i : ℕ) (v : A) (vs : List A) → length c ≡ m → i < m → stored m (c ++ l) i (v ∷ vs) ≡ set c i v ++ stored m l i vs
  stored-column c l i v vs e less =
      ap (λ (u : List A). stored m u (i + m) vs) (set-append_left c l i v (subst (λ (n : ℕ). i < n) (sym e) less))
      ∙ ap (λ (j : ℕ). stored m (set c i v ++ l) j vs) (add_comm i m ∙ ap (λ (n : ℕ). n + i) (sym (length-set c i v ∙ e)))
      ∙ stored_behind (set c i v) l i vs

module _ {A X : Type 0} (m : ℕ) (xs : List X) where
  -- a column once i items are in it
  abbrev column : (X → A) → ℕ → List A → List A
  column f i c = map f (take i xs) ++ drop i c

  -- all columns then, and the cells after them
  abbrev front : List (X → A) → ℕ → List A → List A
  front [] i l = l
  front (f ∷ fs) i l = column f i (take m l) ++ front fs i (drop m l)

  abbrev values : List (X → A) → X → List A
  values fs x = map (λ (f : X → A). f x) fs

  length_fields : (f : X → A) (i : ℕ) → i ≤ length xs → length (map f (take i xs)) ≡ i
  length_fields f i few = length-map (take i xs) f ∙ length-take-le i xs few

  length-column : (f : X → A) (i : ℕ) (c : List A) → i ≤ length xs → length c ≡ m → i ≤ m → length (column f i c) ≡ m
  length-column f i c few e le = length-append (map f (take i xs)) (drop i c) ∙ ap (λ (n : ℕ). n + length (drop i c)) (length_fields f i few) ∙ ap (λ (n : ℕ). i + n) (length-drop i c ∙ ap (λ (n : ℕ). n - i) e) ∙ rest
    where
      rest : i + (m - i) ≡ m
      rest = omega (arith, le)

  set-column : (f : X → A) (i : ℕ) (c : List A) (d : X) → i < length xs → i < length c → set (column f i c) i (f (get_or xs i d)) ≡ column f (suc i) c
  set-column f i c d few less =
      ap (λ (u : List A). set (map f (take i xs) ++ u) i v) (drop-cons c i (f d) less) ∙ set_at (map f (take i xs)) (get_or c i (f d)) (drop (suc i) c) v i (length_fields f i (omega (arith, few)))
      ∙ sym (append_snoc (map f (take i xs)) v (drop (suc i) c)) ∙ ap (λ (u : List A). u ++ drop (suc i) c) (sym (ap (map f) (take-suc xs i d few) ∙ map-append f (take i xs) (get_or xs i d ∷ [])))
    where
      v : A
      v = f (get_or xs i d)

  -- k columns fit
  shorter : (k : ℕ) (l : List A) → suc k * m ≤ length l → (m ≤ length l) × (k * m ≤ length (drop m l))
  shorter k l h = (omega (arith, h'), subst (λ (n : ℕ). k * m ≤ n) (sym (length-drop m l)) (omega (arith, h')))
    where
      h' : k * m + m ≤ length l
      h' = subst (λ (n : ℕ). n ≤ length l) (suc-mul k m) h

  front-none : (fs : List (X → A)) (l : List A) → front fs zero l ≡ l
  front-none [] l = refl
  front-none (f ∷ fs) l = ap (λ (u : List A). take m l ++ u) (front-none fs (drop m l)) ∙ take-append-drop m l

  front-more : (fs : List (X → A)) (i : ℕ) (d : X) (l : List A) → i < m → i < length xs → length fs * m ≤ length l → stored m (front fs i l) i (values fs (get_or xs i d)) ≡ front fs (suc i) l
  front-more [] i d l less few h = refl
  front-more (f ∷ fs) i d l less few h =
      stored-column m (column f i (take m l)) (front fs i (drop m l)) i (f (get_or xs i d)) (values fs (get_or xs i d)) (length-column f i (take m l) (omega (arith, few)) long (omega (arith, less))) less
      ∙ ap (λ (u : List A). u ++ stored m (front fs i (drop m l)) i (values fs (get_or xs i d))) (set-column f i (take m l) d few (subst (λ (n : ℕ). i < n) (sym long) less))
      ∙ ap (λ (u : List A). column f (suc i) (take m l) ++ u) (front-more fs i d (drop m l) less few (shorter (length fs) l h).1)
    where
      long : length (take m l) ≡ m
      long = length-take-le m l (shorter (length fs) l h).0

  -- the columns of all items, one after another, and then the rest
  abbrev columns : List (X → A) → List A → List A
  columns [] rest = rest
  columns (f ∷ fs) rest = map f (take m xs) ++ columns fs rest

  front_all : (fs : List (X → A)) (l : List A) → length fs * m ≤ length l → front fs m l ≡ columns fs (drop (length fs * m) l)
  front_all [] l h = ap (λ (n : ℕ). drop n l) (sym (zero-mul m))
  front_all (f ∷ fs) l h =
      ap (λ (u : List A). map f (take m xs) ++ u ++ front fs m (drop m l)) (drop_of_length-le (take m l) (subst (λ (n : ℕ). n ≤ m) (sym (length-take-le m l (shorter (length fs) l h).0)) (le_refl m)))
      ∙ ap (λ (u : List A). u ++ front fs m (drop m l)) (append-nil (map f (take m xs)))
      ∙ ap (λ (u : List A). map f (take m xs) ++ u) (front_all fs (drop m l) (shorter (length fs) l h).1 ∙ ap (columns fs) (drop-drop (length fs * m) m l ∙ ap (λ (n : ℕ). drop n l) (add_comm m (length fs * m) ∙ sym (suc-mul (length fs) m))))

  -- the same, as `numbers_of` and `codes_of` bracket them
  abbrev joined : List A → List (X → A) → List A
  joined acc [] = acc
  joined acc (f ∷ fs) = joined (acc ++ map f (take m xs)) fs

  joined_rest : (acc : List A) (fs : List (X → A)) (rest : List A) → joined acc fs ++ rest ≡ acc ++ columns fs rest
  joined_rest acc [] rest = refl
  joined_rest acc (f ∷ fs) rest = joined_rest (acc ++ map f (take m xs)) fs rest ∙ append_assoc acc (map f (take m xs)) (columns fs rest)

  length_joined : (acc : List A) (fs : List (X → A)) → m ≤ length xs → length (joined acc fs) ≡ length acc + length fs * m
  length_joined acc [] few = sym (ap (λ (n : ℕ). length acc + n) (zero-mul m) ∙ add-zero (length acc))
  length_joined acc (f ∷ fs) few =
      length_joined (acc ++ map f (take m xs)) fs few ∙ ap (λ (n : ℕ). n + length fs * m) (length-append acc (map f (take m xs)) ∙ ap (λ (n : ℕ). length acc + n) (length_fields f m few))
      ∙ add_assoc (length acc) m (length fs * m) ∙ ap (λ (n : ℕ). length acc + n) (add_comm m (length fs * m) ∙ sym (suc-mul (length fs) m))

  -- k columns of m items, whatever stands behind them
  pub taken_all : (f : X → A) (fs : List (X → A)) (rest : List A) → m ≤ length xs → take (length (f ∷ fs) * m) (joined (map f (take m xs)) fs ++ rest) ≡ joined (map f (take m xs)) fs
  taken_all f fs rest few =
      take_at (joined (map f (take m xs)) fs) rest (length (f ∷ fs) * m)
      (length_joined (map f (take m xs)) fs few ∙ ap (λ (n : ℕ). n + length fs * m) (length_fields f m few) ∙ add_comm m (length fs * m) ∙ sym (suc-mul (length fs) m))

  -- list k of m cells is field k of the items
  columns_at : (fs : List (X → A)) (rest : List A) (k : ℕ) (d : X → A) → m ≤ length xs → k < length fs → take m (drop (k * m) (columns fs rest)) ≡ map (get_or fs k d) (take m xs)
  columns_at [] rest k d few h = absurd (not-suc-le-zero h)
  columns_at (f ∷ fs) rest zero d few h =
      ap (λ (n : ℕ). take m (drop n (map f (take m xs) ++ columns fs rest))) (zero-mul m) ∙ take_at (map f (take m xs)) (columns fs rest) m (length_fields f m few)
  columns_at (f ∷ fs) rest (suc k) d few h =
      ap (λ (n : ℕ). take m (drop n (map f (take m xs) ++ columns fs rest))) (suc-mul k m ∙ add_comm (k * m) m ∙ ap (λ (n : ℕ). n + k * m) (sym (length_fields f m few)))
      ∙ ap (take m) (drop-append-add (map f (take m xs)) (columns fs rest) (k * m)) ∙ columns_at fs rest k d few (le_of_suc-le-suc h)

  pub joined_at : (f : X → A) (fs : List (X → A)) (k : ℕ) (d : X → A) → m ≤ length xs → k < length (f ∷ fs) → take m (drop (k * m) (joined (map f (take m xs)) fs)) ≡ map (get_or (f ∷ fs) k d) (take m xs)
  joined_at f fs k d few h =
      ap (λ (l : List A). take m (drop (k * m) l)) (sym (append-nil (joined (map f (take m xs)) fs)) ∙ joined_rest (map f (take m xs)) fs []) ∙ columns_at (f ∷ fs) [] k d few h

  -- ---- the first i items stored, one after another
  abbrev pub laid : (X → List A) → X → List A → ℕ → List A
  laid fields d l zero = l
  laid fields d l (suc i) = stored m (laid fields d l i) i (fields (get_or xs i d))

  -- one item more
  pub laid_next : (fields : X → List A) (d : X) (l : List A) (i : ℕ) (now more vs : List A) → i < m → now ≡ laid fields d l i → vs ≡ fields (get_or (take m xs) i d) → more ≡ stored m now i vs → more ≡ laid fields d l (i + 1)
  laid_next fields d l i now more vs h was is put =
      let e : suc i ≡ i + 1 = omega arith in
      put ∙ ap (λ (u : List A). stored m u i vs) was ∙ ap (stored m (laid fields d l i) i) (is ∙ ap fields (get_or-take m xs i d h)) ∙ ap (laid fields d l) e

  laid_front : (fs : List (X → A)) (d : X) (l : List A) (i : ℕ) → i ≤ m → m ≤ length xs → length fs * m ≤ length l → laid (values fs) d l i ≡ front fs i l
  laid_front fs d l zero le few h = sym (front-none fs l)
  laid_front fs d l (suc i) le few h = ap (λ (u : List A). stored m u i (values fs (get_or xs i d))) (laid_front fs d l i (omega (arith, le)) few h) ∙ front-more fs i d l le (omega (arith, le, few)) h

  pub laid_all : (f : X → A) (fs : List (X → A)) (d : X) (l : List A) → m ≤ length xs → length (f ∷ fs) * m ≤ length l → laid (values (f ∷ fs)) d l m ≡ joined (map f (take m xs)) fs ++ drop (length (f ∷ fs) * m) l
  laid_all f fs d l few h = laid_front (f ∷ fs) d l m (le_refl m) few h ∙ front_all (f ∷ fs) l h ∙ sym (joined_rest (map f (take m xs)) fs (drop (length (f ∷ fs) * m) l))

  -- storing changes no length
  pub length_laid : (fields : X → List A) (d : X) (l : List A) (i : ℕ) → length (laid fields d l i) ≡ length l
  length_laid fields d l zero = refl
  length_laid fields d l (suc i) = length-stored m (fields (get_or xs i d)) (laid fields d l i) i ∙ length_laid fields d l i
