-- What the search leaves of a lent list, and the list with the rest of the named cells cleared. Assumes nothing.
use mathlib.Core.Path.{◌≡◌, sym, ap, ap₂, subst, ◌∙◌}
use mathlib.Core.List.{List, ◌++◌, append_assoc}
use Prim.Native.Nat.{ℕ, ◌+◌, ◌-◌, ◌*◌, ◌≤◌}
use native.Mathlib.Nat.{add-sub_of_le}
use native.Mathlib.Omega.{arith}
use lib.ListN.{length, drop, replicate, length-append, length-replicate, replicate-append-replicate}
use lib.Seq.{take_at, drop_at, drop-drop}
use Rattle.lists.specs.Cells.{filled}
use Rattle.balance.specs.Parts.{Left}

pub left_of : {A : Type 0} (zero : A) (first more : ℕ) (before front middle rest : List A) → front ≡ replicate first zero → length middle ≡ more → rest ≡ drop (first + more) before
    → Left zero first (first + more) before (front ++ (middle ++ rest))
left_of {A} zero first more before front middle rest f m r = record {
  front = take_at front (middle ++ rest) first size ∙ f;
  past =
      ap (drop (first + more)) (sym (append_assoc front middle rest))
      ∙ drop_at (front ++ middle) rest (first + more) (omega (arith, length-append front middle, size))
      ∙ r;
}
  where
    size : length front ≡ first
    size = ap length f ∙ length-replicate {A = A} first zero

-- with two and three lists between
module _ {A : Type 0} (zero : A) (first n : ℕ) (before front a b rest₁ rest₂ rest₃ : List A) (f : front ≡ replicate first zero) (p : length a ≡ n) (q : length b ≡ n)
    (e₁ : rest₁ ≡ drop first before) (e₂ : rest₂ ≡ drop n rest₁) (e₃ : rest₃ ≡ drop n rest₂) where
  drop_two : rest₃ ≡ drop (first + 2 * n) before
  drop_two =
      e₃ ∙ ap (drop n) (e₂ ∙ ap (drop n) e₁) ∙ ap (drop n) (drop-drop n first before) ∙ drop-drop n (first + n) before
      ∙ ap (λ (k : ℕ). drop k before) (let g : first + n + n ≡ first + 2 * n = omega arith in g)

  pub left_two : Left zero first (first + 2 * n) before (front ++ (a ++ (b ++ rest₃)))
  left_two =
      subst (λ (l : List A). Left zero first (first + 2 * n) before (front ++ l)) (append_assoc a b rest₃)
      (left_of zero first (2 * n) before front (a ++ b) rest₃ f (omega (arith, length-append a b)) drop_two)

  pub left_three : (c rest₄ : List A) → length c ≡ n → rest₄ ≡ drop n rest₃ → Left zero first (first + 3 * n) before (front ++ (a ++ (b ++ (c ++ rest₄))))
  left_three c rest₄ r e₄ =
      subst (λ (l : List A). Left zero first (first + 3 * n) before (front ++ l)) (append_assoc a (b ++ c) rest₄ ∙ ap (λ (l : List A). a ++ l) (append_assoc b c rest₄))
      (left_of zero first (3 * n) before front (a ++ (b ++ c)) rest₄ f (omega (arith, length-append a (b ++ c), length-append b c))
      (e₄ ∙ ap (drop n) drop_two ∙ drop-drop n (first + 2 * n) before ∙ ap (λ (k : ℕ). drop k before) (let g : first + 2 * n + n ≡ first + 3 * n = omega arith in g)))

pub filled_left : {A : Type 0} (zero : A) (first named : ℕ) (before after : List A) → first ≤ named → Left zero first named before after → filled zero first named after ≡ replicate named zero ++ drop named before
filled_left {A} zero first named before after h L =
    ap₂ (λ (t r : List A). t ++ (replicate (named - first) zero ++ r)) L.front L.past
    ∙ sym (append_assoc (replicate first zero) (replicate (named - first) zero) (drop named before))
    ∙ ap (λ (t : List A). t ++ drop named before) (replicate-append-replicate first (named - first) zero ∙ ap (λ (k : ℕ). replicate k zero) (add-sub_of_le h))
