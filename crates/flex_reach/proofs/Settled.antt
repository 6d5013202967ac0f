-- What a round makes of each cell, by the sign of the total of the violations; and the round's sums: where the total is not on the side of the
-- free space, the clamped sizes come to no more than the bases and the free space, seen to that side. Assumes nothing.
use mathlib.Core.Path.{◌≡◌, refl, sym, ap, ap₂, ◌∙◌, subst}
use mathlib.Core.Logic.{◌⊎◌, inl, inr}
use mathlib.Core.Bool.{Bool, true, false, not, cond, true≢false}
use mathlib.Core.List.{List, [], ◌∷◌}
use Prim.Native.Nat.{ℕ, suc, ◌+◌, ◌*◌, ◌^◌, ◌≤◌, ◌<◌, zero-le}
use native.Mathlib.Nat.{le_trans, le_of_eq, mul-le-mul_right}
use native.Mathlib.Omega.{arith}
use lib.Dec.{T, lit≤}
use lib.ListN.{length}
use lib.Ieee.{Float, lt}
use Rattle.flex.proofs.Falls.{all_map}
use Rattle.flex.specs.declared.Item.{Item}
use Rattle.flex.specs.declared.Share.{Share}
use Rattle.grid.specs.Floats.{nought}
use Rattle.flex.specs.Flex.{Cell, left, total, flexed, clamp, violation, freezes, settle, weight}
use Rattle.flex.proofs.Signs.{All}
use Rattle.flex_reach.proofs.Units.{px, Num, far, one_side, lt_num}
use Rattle.flex_reach.proofs.Times.{nought_num}
use Rattle.flex_reach.proofs.Totals.{count, count_long, Near, total_near}
use Rattle.flex_reach.proofs.Turn.{under, part, part_most, flexed_num, Shares, Turn, turn}
use Rattle.flex_reach.proofs.Space.{Sound}

-- ---- lists

pub all_both : {A : Type 0} (P Q : A → Type 0) (l : List A) → All P l → All Q l → All (λ a. P a × Q a) l
all_both P Q [] h k = tt
all_both P Q (a ∷ l) h k = ((h.0, k.0), all_both P Q l h.1 k.1)

-- of the unfrozen, as cells of the whole line
pub left_all : (P : Cell → Type 0) (l : List Cell) → All P (left l) → All (λ c. c.frozen ≡ false → P c) l
unfolding left
left_all P [] h = tt
left_all P (c ∷ l) h = go c.frozen refl h (λ (r : All P (left l)). left_all P l r)
  where
    go : (b : Bool) → c.frozen ≡ b → All P (cond b (left l) (c ∷ left l)) → (All P (left l) → All (λ c. c.frozen ≡ false → P c) l) → All (λ c. c.frozen ≡ false → P c) (c ∷ l)
    go true e h f = ((λ d. absurd (true≢false (sym e ∙ d))), f h)
    go false e h f = ((λ d. h.0), f h.1)

pub count_split : (p q : Cell → ℕ) (l : List Cell) → count (λ c. cond c.frozen (p c) (q c)) l ≡ count (λ c. cond c.frozen (p c) 0) l + count q (left l)
unfolding left count
count_split p q [] = refl
count_split p q (c ∷ l) = go c.frozen (count_split p q l)
  where
    P : ℕ
    P = count (λ c. cond c.frozen (p c) 0) l

    first : (a x y z : ℕ) → x ≡ y + z → a + x ≡ a + y + z
    first a x y z e = omega arith

    second : (a x y z : ℕ) → x ≡ y + z → a + x ≡ 0 + y + (a + z)
    second a x y z e = omega arith

    go : (b : Bool) → count (λ c. cond c.frozen (p c) (q c)) l ≡ P + count q (left l)
        → cond b (p c) (q c) + count (λ c. cond c.frozen (p c) (q c)) l ≡ cond b (p c) 0 + P + count q (cond b (left l) (c ∷ left l))
    go true e = first (p c) (count (λ c. cond c.frozen (p c) (q c)) l) P (count q (left l)) e
    go false e = second (q c) (count (λ c. cond c.frozen (p c) (q c)) l) P (count q (left l)) e

-- ---- the total's sign

pub data Sign (t : Float) : Type 0 where
  up : 0 < far false t → ((v : Float) → freezes t v ≡ lt nought v) → Sign t
  down : far false t ≡ 0 → 0 < far true t → ((v : Float) → freezes t v ≡ lt v nought) → Sign t
  level : far false t ≡ 0 → far true t ≡ 0 → ((v : Float) → freezes t v ≡ true) → Sign t

pub sign : {t : Float} → Num t → Sign t
unfolding freezes
sign {t} p = go (lt nought t) refl (lt t nought) refl
  where
    a : (T (lt nought t) → far false nought + far true t < far false t + far true nought) × (T (not (lt nought t)) → far false t + far true nought ≤ far false nought + far true t)
    a = lt_num nought_num.0 p

    b : (T (lt t nought) → far false t + far true nought < far false nought + far true t) × (T (not (lt t nought)) → far false nought + far true t ≤ far false t + far true nought)
    b = lt_num p nought_num.0

    pos : (x y o o' : ℕ) → o + y < x + o' → o ≡ 0 → o' ≡ 0 → 0 < x
    pos x y o o' h e f = omega arith

    none : (x y o o' : ℕ) → x + o' ≤ o + y → o ≡ 0 → o' ≡ 0 → (x ≡ 0) ⊎ (y ≡ 0) → x ≡ 0
    none x y o o' h e f (inl z) = z
    none x y o o' h e f (inr z) = omega arith

    swap : (y x o o' : ℕ) → x + o' < o + y → o ≡ 0 → o' ≡ 0 → 0 < y
    swap y x o o' h e f = omega arith

    less : (y x o o' : ℕ) → o + y ≤ x + o' → o ≡ 0 → o' ≡ 0 → x ≡ 0 → y ≡ 0
    less y x o o' h e f z = omega arith

    yes : {b : Bool} → b ≡ true → T b
    yes e = subst T (sym e) tt

    not_so : {b : Bool} → b ≡ false → T (not b)
    not_so e = subst (λ (b : Bool). T (not b)) (sym e) tt

    go : (x : Bool) → lt nought t ≡ x → (y : Bool) → lt t nought ≡ y → Sign t
    go true e y f = up (pos (far false t) (far true t) (far false nought) (far true nought) (a.0 (yes e)) (nought_num.1 false) (nought_num.1 true)) (λ v. ap (λ (b : Bool). cond b (lt nought v) (cond (lt t nought) (lt v nought) true)) e)
    go false e true f =
        down (none (far false t) (far true t) (far false nought) (far true nought) (a.1 (not_so e)) (nought_num.1 false) (nought_num.1 true) (one_side p false))
        (swap (far true t) (far false t) (far false nought) (far true nought) (b.0 (yes f)) (nought_num.1 false) (nought_num.1 true))
        (λ v. ap₂ (λ (b d : Bool). cond b (lt nought v) (cond d (lt v nought) true)) e f)
    go false e false f =
        let z = none (far false t) (far true t) (far false nought) (far true nought) (a.1 (not_so e)) (nought_num.1 false) (nought_num.1 true) (one_side p false) in
        level z (less (far true t) (far false t) (far false nought) (far true nought) (b.1 (not_so f)) (nought_num.1 false) (nought_num.1 true) z)
        (λ v. ap₂ (λ (b d : Bool). cond b (lt nought v) (cond d (lt v nought) true)) e f)

pub above_nought : {v : Float} → Num v → lt nought v ≡ true → 0 < far false v
above_nought {v} p e = go (far false v) (far true v) (far false nought) (far true nought) ((lt_num nought_num.0 p).0 (subst T (sym e) tt)) (nought_num.1 false) (nought_num.1 true)
  where
    go : (x y o o' : ℕ) → o + y < x + o' → o ≡ 0 → o' ≡ 0 → 0 < x
    go x y o o' h e f = omega arith

pub below_nought : {v : Float} → Num v → lt v nought ≡ true → 0 < far true v
below_nought {v} p e = go (far false v) (far true v) (far false nought) (far true nought) ((lt_num p nought_num.0).0 (subst T (sym e) tt)) (nought_num.1 false) (nought_num.1 true)
  where
    go : (x y o o' : ℕ) → x + o' < o + y → o ≡ 0 → o' ≡ 0 → 0 < y
    go x y o o' h e f = omega arith

-- ---- a cell after the round

abbrev pub sized : Share → Item → Float
sized sh it = clamp it (flexed sh it)

module _ (sh : Share) (t : Float) (c : Cell) (P : Cell → Type 0) where
  -- it was frozen, or it is frozen now, or it is not
  pub settled : (c.frozen ≡ true → P c) → (c.frozen ≡ false → freezes t (violation sh c.item) ≡ true → P (record { item = c.item; frozen = true; target = sized sh c.item }))
      → (c.frozen ≡ false → freezes t (violation sh c.item) ≡ false → P (record { item = c.item; frozen = false; target = sized sh c.item })) → P (settle sh t c)
  unfolding settle
  settled p q r = go c.frozen refl (freezes t (violation sh c.item)) refl
    where
      go : (a : Bool) → c.frozen ≡ a → (b : Bool) → freezes t (violation sh c.item) ≡ b → P (cond a c (record { item = c.item; frozen = b; target = sized sh c.item }))
      go true e b f = p e
      go false e true f = q e f
      go false e false f = r e f

-- ---- the turns of the unfrozen

abbrev pub TurnOf : Bool → Share → Cell → Type 0
TurnOf g sh c = Turn g (part g sh c.item) c.item (flexed sh c.item) (sized sh c.item) (violation sh c.item)

pub turns : (g k : Bool) (sh : Share) → Shares g sh → (l : List Cell) → All (λ c. Sound k c × (c.frozen ≡ false)) l → All (λ c. far false (weight sh.growing c.item) ≤ far false sh.weights) l → All (TurnOf g sh) l
unfolding violation
turns g k sh s [] h w = tt
turns g k sh s (c ∷ l) h w = (
  turn g (part g sh c.item) c.item (flexed sh c.item) h.0.0.item (flexed_num g sh s c.item h.0.0.item w.0) (le_trans (part_most g sh s c.item h.0.0.item w.0) s.most),
  turns g k sh s l h.1 w.1,
)

module _ (g : Bool) (sh : Share) where
  abbrev v : Cell → Float
  v c = violation sh c.item

  abbrev z : Cell → Float
  z c = sized sh c.item

  abbrev b : Cell → Float
  b c = c.item.base

  balances : (l : List Cell) → All (TurnOf g sh) l
      → count (λ c. far (not g) (violation sh c.item)) l + count (λ c. far g (sized sh c.item)) l + count (λ c. far (not g) c.item.base) l
      ≤ count (λ c. far g (violation sh c.item)) l + count (λ c. far (not g) (sized sh c.item)) l + count (λ c. far g c.item.base) l + count (λ c. part g sh c.item) l + count (λ c. 384 * px) l
  unfolding count
  balances [] h = lit≤ tt
  balances (c ∷ l) h = add (far (not g) (v c)) (far g (z c)) (far (not g) (b c)) (far g (v c)) (far (not g) (z c)) (far g (b c)) (part g sh c.item) (384 * px)
      (count (λ c. far (not g) (v c)) l) (count (λ c. far g (z c)) l) (count (λ c. far (not g) (b c)) l) (count (λ c. far g (v c)) l) (count (λ c. far (not g) (z c)) l) (count (λ c. far g (b c)) l) (count (λ c. part g sh c.item) l) (count (λ c. 384 * px) l)
      h.0.balance (balances l h.1)
    where
      add : (a b c d e f q p A B C D E F Q P : ℕ) → a + b + c ≤ d + e + f + q + p → A + B + C ≤ D + E + F + Q + P → a + A + (b + B) + (c + C) ≤ d + D + (e + E) + (f + F) + (q + Q) + (p + P)
      add a b c d e f q p A B C D E F Q P h k = omega arith

-- ---- the total of the violations

pub violations_big : 33554432 * (512 * px) ≤ 2 ^ 248
violations_big = under 17179869184 (lit≤ tt) (le_of_eq (re px))
  where
    re : (p : ℕ) → 33554432 * (512 * p) ≡ 17179869184 * p
    re p = omega arith

module _ (g : Bool) (sh : Share) (s : Shares g sh) (l : List Cell) (n : length l ≤ 1024) (ts : All (TurnOf g sh) l)
    (w : 4096 * count (λ c. part g sh c.item) l ≤ 4097 * far g sh.free + 4096 * px) where
  each_most : (h : Bool) (l : List Cell) → All (TurnOf g sh) l → count (λ c. far h (violation sh c.item)) l ≤ count (λ c. part g sh c.item) l + length l * (1048576 * px)
  unfolding count
  each_most h [] ts = zero-le
  each_most h (c ∷ l) ts = add (far h (violation sh c.item)) (part g sh c.item) (count (λ c. far h (violation sh c.item)) l) (count (λ c. part g sh c.item) l) (length l) px (ts.0.violated_most h) (each_most h l ts.1)
    where
      add : (v d V' D n p : ℕ) → v ≤ d + 1048576 * p → V' ≤ D + n * (1048576 * p) → v + V' ≤ d + D + suc n * (1048576 * p)
      add v d V' D n p h k = omega arith

  pub violations : Near (512 * px) violations_big (λ c. violation sh c.item) nought l (total (λ c. violation sh c.item) l)
  violations = total_near (512 * px) violations_big (λ c. violation sh c.item) nought l nought_num.0 (all_map (λ c t. t.violated) l ts)
      (λ h. fits (far h nought) (count (λ c. far h (violation sh c.item)) l) (count (λ c. part g sh c.item) l) (length l * (1048576 * px)) (count (λ c. 512 * px) l) (far g sh.free) px
      (nought_num.1 h) (each_most h l ts) (mul-le-mul_right (1048576 * px) n) (le_trans (le_of_eq (count_long (512 * px) l)) (mul-le-mul_right (512 * px) n)) w s.most)
    where
      fits : (o a d m k f p : ℕ) → o ≡ 0 → a ≤ d + m → m ≤ 1024 * (1048576 * p) → k ≤ 1024 * (512 * p) → 4096 * d ≤ 4097 * f + 4096 * p → f ≤ 1073741824 * p → o + a + k ≤ 16777216 * (512 * p)
      fits o a d m k f p h i j l u q = omega arith

  -- the clamped sizes against the bases and the parts, where the total is not on the side g
  pub conserved : far g (total (λ c. violation sh c.item) l) ≡ 0
      → count (λ c. far g (sized sh c.item)) l + count (λ c. far (not g) c.item.base) l ≤ count (λ c. far (not g) (sized sh c.item)) l + count (λ c. far g c.item.base) l + count (λ c. part g sh c.item) l + 917504 * px
  conserved e = add (count (λ c. far (not g) (violation sh c.item)) l) (count (λ c. far g (sized sh c.item)) l) (count (λ c. far (not g) c.item.base) l)
      (count (λ c. far g (violation sh c.item)) l) (count (λ c. far (not g) (sized sh c.item)) l) (count (λ c. far g c.item.base) l) (count (λ c. part g sh c.item) l) (count (λ c. 384 * px) l) (count (λ c. 512 * px) l)
      (far g (total (λ c. violation sh c.item) l)) (far (not g) (total (λ c. violation sh c.item) l)) (far g nought) (far (not g) nought) px
      (balances g sh l ts) (sides g (λ k. violations.near k)) e (nought_num.1 g) (nought_num.1 (not g))
      (le_trans (le_of_eq (count_long (384 * px) l)) (mul-le-mul_right (384 * px) n)) (le_trans (le_of_eq (count_long (512 * px) l)) (mul-le-mul_right (512 * px) n))
    where
      sides : (g : Bool) → ((k : Bool) → far k (total (λ c. violation sh c.item) l) + far (not k) nought + count (λ c. far (not k) (violation sh c.item)) l
          ≤ far (not k) (total (λ c. violation sh c.item) l) + far k nought + count (λ c. far k (violation sh c.item)) l + count (λ c. 512 * px) l)
          → far (not g) (total (λ c. violation sh c.item) l) + far g nought + count (λ c. far g (violation sh c.item)) l
          ≤ far g (total (λ c. violation sh c.item) l) + far (not g) nought + count (λ c. far (not g) (violation sh c.item)) l + count (λ c. 512 * px) l
      sides true h = h false
      sides false h = h true

      add : (v' c b' v c' b d x y t t' o o' p : ℕ) → v' + c + b' ≤ v + c' + b + d + x → t' + o + v ≤ t + o' + v' + y → t ≡ 0 → o ≡ 0 → o' ≡ 0 → x ≤ 1024 * (384 * p) → y ≤ 1024 * (512 * p) → c + b' ≤ c' + b + d + 917504 * p
      add v' c b' v c' b d x y t t' o o' p h k e f i j l = omega arith
