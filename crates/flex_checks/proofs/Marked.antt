-- The marks of a call's lists, put together, are the least mark of its input: a list's marks are one number more of every item. Assumes nothing.
use mathlib.Core.Path.{◌≡◌, refl, sym, ap, ap₂, ◌∙◌}
use mathlib.Core.List.{List, [], ◌∷◌, ◌++◌}
use Prim.Native.Nat.{ℕ, zero, suc, ◌+◌, min}
use native.Mathlib.Nat.{min-eq_left, le_refl}
use lib.ListN.{length}
use lib.Ieee.{Float}
use Rattle.checks.specs.Domain.{Number, float}
use Rattle.checks.specs.Lists.{beside_at}
use Rattle.checks.specs.Marks.{mark, least_of, least_up_to, least_mark}
use Rattle.checks.specs.declared.Kind.TheVariants.{Size, Margin}
use Rattle.checks.proofs.Checks.{least_both}
use Rattle.checks.proofs.Marked.{several, several_both, container-two}
use Rattle.flex.specs.Items.{Lists, count}
use Rattle.flex_checks.specs.Input.{plain_at, input_of}
use Rattle.flex.specs.Accepted.{Even}

-- the least mark of the numbers that each item has in f
abbrev pub single : (ℕ → Number) → ℕ → ℕ
single f n = least_up_to (λ i. mark (f i) (i + 1)) n

pub several_none : (n : ℕ) → several (λ i. []) n ≡ 6144
unfolding least_up_to least_of
several_none zero = refl
several_none (suc n) = ap (λ (k : ℕ). min k 6144) (several_none n) ∙ min-eq_left (le_refl 6144)

pub several_more : (f : ℕ → Number) (g : ℕ → List Number) (n a b r : ℕ) → a ≡ single f n → b ≡ several g n → r ≡ min a b → r ≡ several (λ i. f i ∷ g i) n
unfolding least_of
several_more f g n a b r p q e = e ∙ ap₂ min p q ∙ sym (least_both (λ i. mark (f i) (i + 1)) (λ i. least_of (g i) (i + 1)) n)

-- the container's two numbers
pub container_is : (x y : Number) (a b r : ℕ) → a ≡ mark x 0 → b ≡ mark y 0 → r ≡ min a b → r ≡ least_of (x ∷ y ∷ []) 0
unfolding least_of
container_is x y a b r p q e = e ∙ ap₂ min p q ∙ container-two x y

module _ (inner gap : Float) (ls : Lists) (even : Even ls) where
  -- all marks of a call
  pub input_is : (c p m s e a b r t : ℕ) → c ≡ least_of (float Size inner ∷ float Size gap ∷ []) 0 → p ≡ several (plain_at ls.base ls.minimum ls.edges ls.grow ls.shrink) (count ls)
      → m ≡ several (beside_at Size 1 ls.maximum ls.has_maximum) (length ls.maximum) → s ≡ several (beside_at Margin 0 ls.start ls.auto_start) (length ls.start)
      → e ≡ several (beside_at Margin 0 ls.end ls.auto_end) (length ls.end) → a ≡ min s e → b ≡ min m a → r ≡ min p b → t ≡ min c r → t ≡ least_mark (input_of inner gap ls)
  input_is c p m s e a b r t hc hp hm hs he ha hb hr ht =
      let M = beside_at Size 1 ls.maximum ls.has_maximum in
      let S = beside_at Margin 0 ls.start ls.auto_start in
      let E = beside_at Margin 0 ls.end ls.auto_end in
      let n = count ls in
      let qa = several_both S E even.start hs (he ∙ ap (several E) even.end) ha in
      let qb = several_both M (λ i. S i ++ E i) even.maximum hm qa hb in
      let qr = several_both (plain_at ls.base ls.minimum ls.edges ls.grow ls.shrink) (λ i. M i ++ (S i ++ E i)) refl hp qb hr in
      ht ∙ ap₂ min hc qr
