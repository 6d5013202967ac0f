-- The items and the end, record by record: how many records are looked for does not matter, as there are no more than bytes. Assumes nothing.
use mathlib.Core.Path.{◌≡◌, refl, ◌∙◌, ap}
use mathlib.Core.List.{List, [], ◌∷◌}
use Prim.Native.Nat.{ℕ, zero, suc, ◌+◌, ◌≤◌}
use native.Mathlib.Omega.{arith}
use lib.ListN.{length, drop, length-drop}
use Rattle.capture_format.specs.Format.{later_front}
use Rattle.capture_format.specs.Reading.{Rest, by_record, ending, records_from, item_records}

enough : (n m place : ℕ) (l : List ℕ) → length l ≤ n → length l ≤ m → records_from n place l ≡ records_from m place l
unfolding records_from later_front
enough zero zero place l a b = refl
enough zero (suc m) place [] a b = refl
enough zero (suc m) place (x ∷ l) a b = absurd (omega arith)
enough (suc n) zero place [] a b = refl
enough (suc n) zero place (x ∷ l) a b = absurd (omega arith)
enough (suc n) (suc m) place l a b =
    ap (λ (t : Rest). by_record (later_front l) place t (ending (place + 1) (drop 1 l)))
    (enough n m (place + 5) (drop 5 l) (omega (arith, length-drop 5 l)) (omega (arith, length-drop 5 l)))

-- one record
pub items_by : (place : ℕ) (l : List ℕ) → item_records place l ≡ by_record (later_front l) place (item_records (place + 5) (drop 5 l)) (ending (place + 1) (drop 1 l))
unfolding item_records records_from
items_by place l =
    enough (length l) (suc (length l)) place l (omega arith) (omega arith)
    ∙ ap (λ (t : Rest). by_record (later_front l) place t (ending (place + 1) (drop 1 l)))
    (enough (length l) (length (drop 5 l)) (place + 5) (drop 5 l) (omega (arith, length-drop 5 l)) (omega arith))
