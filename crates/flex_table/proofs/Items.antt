-- The items of a table: those that it holds of the lists of a call, and those of a part of it. Assumes nothing.
use mathlib.Core.Path.{◌≡◌, refl, sym, ap, ap₂, ◌∙◌, subst}
use mathlib.Core.List.{List, [], ◌∷◌, ◌++◌, map}
use Prim.Native.Nat.{ℕ, zero, suc, ◌+◌, ◌≤◌, ◌<◌}
use native.Mathlib.Nat.{zero-add, le_refl}
use native.Mathlib.Omega.{arith}
use lib.ListN.{length, get_or, take, drop, length-drop}
use lib.Seq.{take-suc, get_or-drop, take-length}
use Rattle.flex.specs.declared.Item.{Item}
use Rattle.lists.specs.Cells.{each}
use Rattle.flex.specs.Items.{Lists, count, item_at, items_of}
use Rattle.flex.specs.Accepted.{Measured, Every}
use Rattle.flex_table.specs.Table.{no_item, item_in, items_in, Tabled, Held}
use Rattle.lists.proofs.Each.{each_ext, map_each}

-- ---- the items of the lists of a call

pub tabled_of : (ls : Lists) (t : List Item) → Held ls t → ((i : ℕ) → i < count ls → Measured (item_at ls i)) → Tabled t (count ls)
tabled_of ls t h m i l = subst Measured (sym (h i l)) (m i l)

pub items_are : (ls : Lists) (t : List Item) → Held ls t → items_in t 0 (count ls) ≡ items_of ls
items_are ls t h = each_ext (count ls) (λ i. item_in t (0 + i)) (item_at ls) (λ i l. ap (item_in t) (zero-add i) ∙ h i l)

pub every-each : (n : ℕ) (f : ℕ → Item) → ((i : ℕ) → i < n → Measured (f i)) → Every Measured (each n f)
unfolding each
every-each zero f h = tt
every-each (suc n) f h = snoc (each n f) (every-each n f (λ i l. h i (omega arith)))
  where
    snoc : (l : List Item) → Every Measured l → Every Measured (l ++ (f n ∷ []))
    snoc [] e = (h n (omega arith), tt)
    snoc (x ∷ l) e = (e.0, snoc l e.1)

pub every_at : (l : List Item) (i : ℕ) → Every Measured l → i < length l → Measured (item_in l i)
every_at [] i e h = absurd (omega arith)
every_at (x ∷ l) zero e h = e.0
every_at (x ∷ l) (suc i) e h = every_at l i e.1 (omega arith)

-- ---- a part of the table

pub take-each : {A : Type 0} (none : A) (n : ℕ) (l : List A) (g : ℕ → A) → n ≤ length l → ((k : ℕ) → k < n → get_or l k none ≡ g k) → take n l ≡ each n g
unfolding each
take-each none zero [] g h e = refl
take-each none zero (x ∷ l) g h e = refl
take-each none (suc n) l g h e = take-suc l n none (omega arith) ∙ ap₂ (λ r x. r ++ (x ∷ [])) (take-each none n l g (omega arith) (λ k m. e k (omega arith))) (e n (omega arith))

pub part_items : (t : List Item) (from n : ℕ) → from + n ≤ length t → take n (drop from t) ≡ items_in t from n
part_items t from n h = take-each no_item n (drop from t) (λ i. item_in t (from + i)) (omega (arith, length-drop from t)) (λ k l. get_or-drop from t k no_item)

pub first_items : (t : List Item) (n : ℕ) → n ≤ length t → take n t ≡ items_in t 0 n
first_items t n h = take-each no_item n t (λ i. item_in t (0 + i)) h (λ k l. ap (item_in t) (sym (zero-add k)))

pub each_items : (t : List Item) → each (length t) (item_in t) ≡ t
each_items t = sym (take-each no_item (length t) t (item_in t) (le_refl (length t)) (λ k l. refl)) ∙ take-length t

pub map_items : {A : Type 0} (f : Item → A) (t : List Item) → map f t ≡ each (length t) (λ i. f (item_in t i))
map_items f t = ap (map f) (sym (each_items t)) ∙ map_each f (length t) (item_in t)

pub all_items : (t : List Item) → items_in t 0 (length t) ≡ t
all_items t = sym (first_items t (length t) (le_refl (length t))) ∙ take-length t

pub every_part : (t : List Item) (from n m : ℕ) → Tabled t m → from + n ≤ m → Every Measured (items_in t from n)
every_part t from n m h l = every-each n (λ i. item_in t (from + i)) (λ i k. h (from + i) (omega arith))
