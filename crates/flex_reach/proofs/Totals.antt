-- A sum of floats over a list, in units: how far it is from the exact sum; and of numbers not below 0, that it is no less than any of them
-- and nearly their exact sum. By induction over the list, a rounding at a time. Assumes nothing.
use mathlib.Core.Path.{◌≡◌, refl, sym, ap, ap₂, ◌∙◌, subst}
use mathlib.Core.Logic.{◌⊎◌, inl, inr}
use mathlib.Core.Bool.{Bool, true, false, not}
use mathlib.Core.List.{List, [], ◌∷◌, map}
use Prim.Native.Nat.{ℕ, suc, ◌+◌, ◌*◌, ◌^◌, ◌≤◌, zero-le}
use native.Mathlib.Nat.{le_refl, le_trans, le_of_eq, zero-mul, mul-le-mul_right}
use native.Mathlib.Omega.{arith}
use lib.ListN.{length}
use lib.Ieee.{Float}
use Rattle.flex.proofs.Falls.{all_map}
use Rattle.grid.specs.Floats.{◌⊕◌}
use Rattle.flex.specs.Flex.{sum_from}
use Rattle.flex.proofs.Signs.{All}
use Rattle.flex_reach.proofs.Units.{Num, far, fl, fl_near, fl_mono, held_num, one_side}
use Rattle.flex_reach.proofs.Plus.{Sum, sum_num, sum_near, sum-under, sum_above}

-- ---- the exact sum of whole numbers over a list

unfoldable pub count : {A : Type 0} → (A → ℕ) → List A → ℕ
count f [] = 0
count f (a ∷ l) = f a + count f l

pub count_all : {A : Type 0} (f g : A → ℕ) (l : List A) → All (λ a. f a ≤ g a) l → count f l ≤ count g l
unfolding count
count_all f g [] h = le_refl 0
count_all f g (a ∷ l) h = go (f a) (g a) (count f l) (count g l) h.0 (count_all f g l h.1)
  where
    go : (a b c d : ℕ) → a ≤ b → c ≤ d → a + c ≤ b + d
    go a b c d h k = omega arith

pub count_long : {A : Type 0} (n : ℕ) (l : List A) → count (λ a. n) l ≡ length l * n
unfolding count
count_long n [] = sym (zero-mul n)
count_long n (a ∷ l) = ap (λ (k : ℕ). n + k) (count_long n l) ∙ go (length l) n
  where
    go : (k n : ℕ) → n + k * n ≡ suc k * n
    go k n = omega arith

pub count_none : {A : Type 0} (f : A → ℕ) (l : List A) → All (λ a. f a ≡ 0) l → count f l ≡ 0
unfolding count
count_none f [] h = refl
count_none f (a ∷ l) h = ap₂ (λ (m n : ℕ). m + n) h.0 (count_none f l h.1)

-- at most n for each of at most k
pub count_most : {A : Type 0} (f : A → ℕ) (n k : ℕ) (l : List A) → All (λ a. f a ≤ n) l → length l ≤ k → count f l ≤ k * n
count_most f n k l h m = le_trans (count_all f (λ a. n) l h) (le_trans (le_of_eq (count_long n l)) (mul-le-mul_right n m))

pub count_same : {A : Type 0} (f g : A → ℕ) (l : List A) → ((a : A) → f a ≡ g a) → count f l ≡ count g l
unfolding count
count_same f g [] h = refl
count_same f g (a ∷ l) h = ap₂ (λ (m n : ℕ). m + n) (h a) (count_same f g l h)

pub count-alike : {A : Type 0} (f g : A → ℕ) (l : List A) → All (λ a. f a ≡ g a) l → count f l ≡ count g l
unfolding count
count-alike f g [] h = refl
count-alike f g (a ∷ l) h = ap₂ (λ (m n : ℕ). m + n) h.0 (count-alike f g l h.1)

-- where each f a is at most g a, one of them differs by no more than the sums do
pub count-one : {A : Type 0} (f g : A → ℕ) (l : List A) → All (λ a. f a ≤ g a) l → All (λ a. g a + count f l ≤ f a + count g l) l
unfolding count
count-one f g [] h = tt
count-one f g (a ∷ l) h = (
  first (f a) (g a) (count f l) (count g l) (count_all f g l h.1),
  all_map (λ b k. rest (f a) (g a) (f b) (g b) (count f l) (count g l) h.0 k) l (count-one f g l h.1),
)
  where
    first : (a b c d : ℕ) → c ≤ d → b + (a + c) ≤ a + (b + d)
    first a b c d h = omega arith

    rest : (a b x y c d : ℕ) → a ≤ b → y + c ≤ x + d → y + (a + c) ≤ x + (b + d)
    rest a b x y c d h k = omega arith

pub count_both : {A : Type 0} (f g : A → ℕ) (l : List A) → count (λ a. f a + g a) l ≡ count f l + count g l
unfolding count
count_both f g [] = refl
count_both f g (a ∷ l) = ap (λ (k : ℕ). f a + g a + k) (count_both f g l) ∙ go (f a) (g a) (count f l) (count g l)
  where
    go : (a b c d : ℕ) → a + b + (c + d) ≡ a + c + (b + d)
    go a b c d = omega arith

pub count_map : {A B : Type 0} (f : B → ℕ) (h : A → B) (l : List A) → count f (map h l) ≡ count (λ a. f (h a)) l
unfolding count
count_map f h [] = refl
count_map f h (a ∷ l) = ap (λ (k : ℕ). f (h a) + k) (count_map f h l)

-- ---- numbers of either sign

module _ {A : Type 0} (M : ℕ) (big : 33554432 * M ≤ 2 ^ 248) (f : A → Float) where
  -- z is the sum of s and the list's numbers, moved by at most M for each
  pub record Near (s : Float) (l : List A) (z : Float) : Type 0 where
    pub num : Num z
    pub near : (g : Bool) → far g z + far (not g) s + count (λ a. far (not g) (f a)) l ≤ far (not g) z + far g s + count (λ a. far g (f a)) l + count (λ a. M) l

  within : (x y : ℕ) → x ≤ 16777216 * M → y ≤ 16777216 * M → x + y ≤ 2 ^ 248
  within x y h k = le_trans (go x y M h k) big
    where
      go : (x y M : ℕ) → x ≤ 16777216 * M → y ≤ 16777216 * M → x + y ≤ 33554432 * M
      go x y M h k = omega arith

  first : (x y c d : ℕ) → x + (y + c) + (M + d) ≤ 16777216 * M → (x + y ≤ 16777216 * M) × (x ≤ 16777216 * M) × (y ≤ 16777216 * M)
  first x y c d h = omega arith

  pub total_near : (s : Float) (l : List A) → Num s → All (λ a. Num (f a)) l → ((g : Bool) → far g s + count (λ a. far g (f a)) l + count (λ a. M) l ≤ 16777216 * M) → Near s l (sum_from s f l)
  unfolding sum_from count
  total_near s [] p q h = record { num = p; near = λ g. omega arith }
  total_near s (a ∷ l) p q h =
      let b : (g : Bool) → (far g s + far g (f a) ≤ 16777216 * M) × (far g s ≤ 16777216 * M) × (far g (f a) ≤ 16777216 * M) = λ g. first (far g s) (far g (f a)) (count (λ a. far g (f a)) l) (count (λ a. M) l) (h g) in
      let r : Sum s (f a) (s ⊕ f a) = sum_num p q.0 (within (far false s) (far true s) (b false).1 (b true).1) (within (far false (f a)) (far true (f a)) (b false).2 (b true).2) in
      let u : (g : Bool) → far g (s ⊕ f a) ≤ far g s + far g (f a) + M = sum-under r M (λ g. (b g).0) in
      let rest = total_near (s ⊕ f a) l r.num q.1 (λ g. step (far g s) (far g (f a)) (far g (s ⊕ f a)) (count (λ a. far g (f a)) l) (count (λ a. M) l) (u g) (h g)) in
      record {
        num = rest.num;
        near = λ g. join (far g (sum_from (s ⊕ f a) f l)) (far (not g) (sum_from (s ⊕ f a) f l)) (far g s) (far (not g) s) (far g (f a)) (far (not g) (f a)) (far g (s ⊕ f a)) (far (not g) (s ⊕ f a))
            (count (λ a. far g (f a)) l) (count (λ a. far (not g) (f a)) l) (count (λ a. M) l) (sum_near r M (λ g. (b g).0) g) (rest.near g);
      }
    where
      step : (s a z c d : ℕ) → z ≤ s + a + M → s + (a + c) + (M + d) ≤ 16777216 * M → z + c + d ≤ 16777216 * M
      step s a z c d h k = omega arith

      join : (t t' s s' a a' z z' c c' d : ℕ) → z + s' + a' ≤ z' + s + a + M → t + z' + c' ≤ t' + z + c + d → t + s' + (a' + c') ≤ t' + s + (a + c) + (M + d)
      join t t' s s' a a' z z' c c' d h k = omega arith

  pub total-under : (s : Float) (l : List A) (z : Float) → Near s l z → (g : Bool) → far g z ≤ far g s + count (λ a. far g (f a)) l + count (λ a. M) l
  total-under s l z r g = go (one_side r.num g) (far g z) (far (not g) z) (far g s) (far (not g) s) (count (λ a. far g (f a)) l) (count (λ a. far (not g) (f a)) l) (count (λ a. M) l) refl refl (r.near g)
    where
      go : (far g z ≡ 0) ⊎ (far (not g) z ≡ 0) → (z₁ z₂ s₁ s₂ c₁ c₂ d : ℕ) → far g z ≡ z₁ → far (not g) z ≡ z₂ → z₁ + s₂ + c₂ ≤ z₂ + s₁ + c₁ + d → z₁ ≤ s₁ + c₁ + d
      go (inl e) z₁ z₂ s₁ s₂ c₁ c₂ d a b h = omega arith
      go (inr e) z₁ z₂ s₁ s₂ c₁ c₂ d a b h = omega arith

  -- ---- numbers not below 0

  pub record Above (s : Float) (l : List A) (z : Float) : Type 0 where
    pub num : Num z
    pub none : far true z ≡ 0
    pub more : far false s ≤ far false z
    pub each : All (λ a. far false (f a) ≤ far false z) l
    pub nearly : 16777216 * (far false s + count (λ a. far false (f a)) l) ≤ 16777216 * far false z + count (λ a. far false z) l

  pub total_above : (s : Float) (l : List A) → Num s → far true s ≡ 0 → All (λ a. Num (f a) × (far true (f a) ≡ 0)) l → far false s + count (λ a. far false (f a)) l + count (λ a. M) l ≤ 16777216 * M → Above s l (sum_from s f l)
  unfolding sum_from count
  total_above s [] p n q h = record { num = p; none = n; more = le_refl (far false s); each = tt; nearly = omega arith }
  total_above s (a ∷ l) p n q h =
      let b = first (far false s) (far false (f a)) (count (λ a. far false (f a)) l) (count (λ a. M) l) h in
      let c : (g : Bool) → far g s + far g (f a) ≤ 16777216 * M = λ g. sides g b.0 q.0.1 in
      let r : Sum s (f a) (s ⊕ f a) = sum_num p q.0.0 (within (far false s) (far true s) b.1 (le_trans (le_of_eq n) zero-le)) (within (far false (f a)) (far true (f a)) b.2 (le_trans (le_of_eq q.0.1) zero-le)) in
      let v = sum_above r n q.0.1 in
      let S = far false s + far false (f a) in
      let rest = total_above (s ⊕ f a) l r.num v.1 q.1 (step (far false s) (far false (f a)) (far false (s ⊕ f a)) (count (λ a. far false (f a)) l) (count (λ a. M) l) (sum-under r M c false) h) in
      let held-s : far false s ≤ far false (s ⊕ f a) = le_trans (le_of_eq (sym (held_num p false).stays)) (le_trans (fl_mono (far false s) S (omega arith)) (le_of_eq (sym v.0))) in
      let held-a : far false (f a) ≤ far false (s ⊕ f a) = le_trans (le_of_eq (sym (held_num q.0.0 false).stays)) (le_trans (fl_mono (far false (f a)) S (omega arith)) (le_of_eq (sym v.0))) in
      let T = far false (sum_from (s ⊕ f a) f l) in
      record {
        num = rest.num;
        none = rest.none;
        more = le_trans held-s rest.more;
        each = (le_trans held-a rest.more, rest.each);
        nearly = join (far false s) (far false (f a)) (fl S) T (count (λ a. far false (f a)) l) (count (λ a. T) l) (fl_near S).2 (subst (λ (n : ℕ). n ≤ T) v.0 rest.more)
            (subst (λ (n : ℕ). 16777216 * (n + count (λ a. far false (f a)) l) ≤ 16777216 * T + count (λ a. T) l) v.0 rest.nearly);
      }
    where
      sides : (g : Bool) → far false s + far false (f a) ≤ 16777216 * M → far true (f a) ≡ 0 → far g s + far g (f a) ≤ 16777216 * M
      sides false h e = h
      sides true h e = omega arith

      step : (s a z c d : ℕ) → z ≤ s + a + M → s + (a + c) + (M + d) ≤ 16777216 * M → z + c + d ≤ 16777216 * M
      step s a z c d h k = omega arith

      join : (s a z t c d : ℕ) → 16777216 * (s + a) ≤ 16777216 * z + z → z ≤ t → 16777216 * (z + c) ≤ 16777216 * t + d → 16777216 * (s + (a + c)) ≤ 16777216 * t + (t + d)
      join s a z t c d h k l = omega arith
