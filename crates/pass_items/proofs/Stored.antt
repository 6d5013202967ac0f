-- Values stored one after another: no length changes, and one value more is one store more. Assumes nothing.
use mathlib.Core.Path.{◌≡◌, refl, sym, ◌∙◌, ap}
use Prim.Native.Nat.{ℕ, suc, ◌+◌, ◌-◌, ◌*◌, ◌<◌, ◌≤◌}
use native.Mathlib.Nat.{zero-mul, zero-add, suc-mul, mul-le-mul_right}
use native.Mathlib.Omega.{arith}
use mathlib.Core.List.{List, [], ◌∷◌, ◌++◌}
use lib.ListN.{length, take, drop, get_or, set, length-set, length-drop}
use lib.Seq.{length-take-le, take-suc}
use borrow.Rule.Slice.PartMut.{mid_of, put_mid, set_mid_at}
use Rattle.pass_items.specs.Parts.{stored}

module _ {A : Type 0} (m : ℕ) where
  pub length-stored : (vs l : List A) (at : ℕ) → length (stored m l at vs) ≡ length l
  length-stored [] l at = refl
  length-stored (v ∷ vs) l at = length-stored vs (set l at v) (at + m) ∙ length-set l at v

  -- one value more
  one_more : (vs l : List A) (at : ℕ) (v : A) → stored m l at (vs ++ (v ∷ [])) ≡ set (stored m l at vs) (length vs * m + at) v
  one_more [] l at v = ap (λ (j : ℕ). set l j v) (sym (ap (λ (j : ℕ). j + at) (zero-mul m) ∙ zero-add at))
  one_more (w ∷ vs) l at v = one_more vs (set l at w) (at + m) v ∙ ap (λ (j : ℕ). set (stored m (set l at w) (at + m) vs) j v) (omega (arith, suc-mul (length vs) m))

  -- value k goes to cell i of column k
  pub set_next :
      (cells old vs : List A) (k i : ℕ) (v : A) → k < length vs
      → cells ≡ stored m old i (take k vs) → v ≡ get_or vs k v → set cells (k * m + i) v ≡ stored m old i (take (k + 1) vs)
  set_next cells old vs k i v h was is =
      let more : suc k ≡ k + 1 = omega arith in
      ap (λ (l : List A). set l (k * m + i) v) was
      ∙ ap (λ (j : ℕ). set (stored m old i (take k vs)) (j * m + i) v) (sym (length-take-le k vs (omega arith)))
      ∙ sym (one_more (take k vs) old i v)
      ∙ ap (stored m old i) (ap (λ (w : A). take k vs ++ (w ∷ [])) is ∙ sym (take-suc vs k v h) ∙ ap (λ (j : ℕ). take j vs) more)

  -- .. which is there
  pub inside : (cells old vs : List A) (k i : ℕ) → k < length vs → i < m → length vs * m ≤ length old → cells ≡ stored m old i (take k vs) → k * m + i < length cells
  inside cells old vs k i h g e was =
      let long : length cells ≡ length old = ap length was ∙ length-stored (take k vs) old i in
      omega (arith, suc-mul k m, mul-le-mul_right {m = suc k} {n = length vs} m h)

  -- the same of a part of the cells, from column k on
  pub stored_next :
      (cells old vs : List A) (k i : ℕ) (v : A) → k < length vs → i < m → length vs * m ≤ length old
      → cells ≡ stored m old i (take k vs) → v ≡ get_or vs k v
      → put_mid (k * m) (length cells - k * m) cells (set (mid_of (k * m) (length cells - k * m) cells) i v) ≡ stored m old i (take (k + 1) vs)
  stored_next cells old vs k i v h g e was is =
      let in_cells : k * m + i < length cells = inside cells old vs k i h g e was in
      set_mid_at (k * m) (length cells - k * m) i cells v (omega (arith, length-drop (k * m) cells, length-take-le (length cells - k * m) (drop (k * m) cells) (omega (arith, length-drop (k * m) cells))))
      ∙ set_next cells old vs k i v h was is
