-- Lists that are made cell by cell, `each n f`, and lent cells that a loop writes from the front. Assumes nothing.
use mathlib.Core.Path.{◌≡◌, refl, sym, ap, ap₂, ◌∙◌, subst}
use mathlib.Core.Logic.{◌⊎◌, inl, inr}
use mathlib.Core.List.{List, [], ◌∷◌, ◌++◌, map, append-nil, append_assoc}
use Prim.Native.Nat.{ℕ, zero, suc, ◌+◌, ◌≤◌, ◌<◌}
use native.Mathlib.Nat.{le_of_suc-le-suc, eq-or-lt_of_le}
use native.Mathlib.Numerals.{add-one}
use native.Mathlib.Omega.{arith}
use lib.ListN.{length, get_or, set, drop, length-append, length-drop}
use lib.Seq.{drop-cons, set_at, get_or_at}
use Rattle.lists.specs.Cells.{each, overwritten}

pub length-each : {A : Type 0} (n : ℕ) (f : ℕ → A) → length (each n f) ≡ n
unfolding each
length-each zero f = refl
length-each (suc n) f = length-append (each n f) (f n ∷ []) ∙ ap (λ (k : ℕ). k + 1) (length-each n f) ∙ add-one n

map_snoc : {A B : Type 0} (g : A → B) (l : List A) (a : A) → map g (l ++ (a ∷ [])) ≡ map g l ++ (g a ∷ [])
map_snoc g [] a = refl
map_snoc g (b ∷ l) a = ap (λ r. g b ∷ r) (map_snoc g l a)

pub map_each : {A B : Type 0} (g : A → B) (n : ℕ) (f : ℕ → A) → map g (each n f) ≡ each n (λ i. g (f i))
unfolding each
map_each g zero f = refl
map_each g (suc n) f = map_snoc g (each n f) (f n) ∙ ap (λ r. r ++ (g (f n) ∷ [])) (map_each g n f)

pub each_ext : {A : Type 0} (n : ℕ) (f g : ℕ → A) → ((i : ℕ) → i < n → f i ≡ g i) → each n f ≡ each n g
unfolding each
each_ext zero f g h = refl
each_ext (suc n) f g h = ap₂ (λ r a. r ++ (a ∷ [])) (each_ext n f g (λ i l. h i (omega arith))) (h n (omega arith))

-- cell j
pub each_at : {A : Type 0} (n : ℕ) (f : ℕ → A) (rest : List A) (d : A) (j : ℕ) → j < n → get_or (each n f ++ rest) j d ≡ f j
unfolding each
each_at zero f rest d j h = absurd (omega arith)
each_at {A} (suc n) f rest d j h = ap (λ (l : List A). get_or l j d) (append_assoc (each n f) (f n ∷ []) rest) ∙ go (eq-or-lt_of_le (le_of_suc-le-suc h)) (λ l. each_at n f (f n ∷ rest) d j l)
  where
    go : (j ≡ n) ⊎ (j < n) → (j < n → get_or (each n f ++ (f n ∷ rest)) j d ≡ f j) → get_or (each n f ++ (f n ∷ rest)) j d ≡ f j
    go (inr l) k = k l
    go (inl e) k = subst (λ (i : ℕ). get_or (each n f ++ (f n ∷ rest)) i d ≡ f i) (sym e) (get_or_at (each n f) (f n) rest d n (length-each n f))

pub get_or-each : {A : Type 0} (n : ℕ) (f : ℕ → A) (i : ℕ) (d : A) → i < n → get_or (each n f) i d ≡ f i
get_or-each {A} n f i d h = ap (λ (l : List A). get_or l i d) (sym (append-nil (each n f))) ∙ each_at n f [] d i h

-- ---- lent cells

module _ {A : Type 0} where
  pub written_none : (f : ℕ → A) (old : List A) → old ≡ overwritten 0 f old
  unfolding each
  written_none f old = refl

  pub written_no_cell : {n : ℕ} (f : ℕ → A) (old : List A) → n ≡ 0 → old ≡ overwritten n f old
  written_no_cell f old e = written_none f old ∙ ap (λ (k : ℕ). overwritten k f old) (sym e)

  pub written_length : (n : ℕ) (f : ℕ → A) (old : List A) {now : List A} → n ≤ length old → now ≡ overwritten n f old → length now ≡ length old
  written_length n f old h e = ap length e ∙ length-append (each n f) (drop n old) ∙ ap₂ (λ (a b : ℕ). a + b) (length-each n f) (length-drop n old) ∙ omega arith

  -- one cell more
  pub written_turn : (f : ℕ → A) (i : ℕ) (old : List A) {now : List A} {v : A} → i < length old → now ≡ overwritten i f old → v ≡ f i → set now i v ≡ overwritten (i + 1) f old
  unfolding each
  written_turn f i old {now} {v} h p q =
      ap₂ (λ (l : List A) (x : A). set l i x) (p ∙ ap (λ (t : List A). each i f ++ t) (drop-cons old i v h)) q
      ∙ set_at (each i f) (get_or old i v) (drop (suc i) old) (f i) i (length-each i f)
      ∙ sym (append_assoc (each i f) (f i ∷ []) (drop (suc i) old))
      ∙ ap (λ (k : ℕ). each k f ++ drop k old) (sym (add-one i))

  -- the loop is over
  pub written_all : {n i : ℕ} (f : ℕ → A) (old : List A) {now : List A} → i ≤ n → n ≤ i → now ≡ overwritten i f old → now ≡ overwritten n f old
  written_all {n} {i} f old {now} h k p = p ∙ ap (λ (j : ℕ). overwritten j f old) (same h k)
    where
      same : i ≤ n → n ≤ i → i ≡ n
      same h k = omega arith
