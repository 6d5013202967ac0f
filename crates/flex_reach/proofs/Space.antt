-- The remaining free space of a round, in units: within 131,072 px of the exact one, and at most 2 ^ 30 px. Assumes nothing.
use mathlib.Core.Path.{◌≡◌, refl, subst}
use mathlib.Core.Bool.{Bool, true, false, not, cond}
use mathlib.Core.List.{List, [], ◌∷◌}
use Prim.Native.Nat.{ℕ, ◌+◌, ◌*◌, ◌^◌, ◌≤◌, zero-le}
use native.Mathlib.Nat.{le_trans, le_of_eq, mul-le-mul_right}
use native.Mathlib.Omega.{arith}
use lib.Dec.{lit≤}
use lib.ListN.{length}
use lib.Ieee.{Float, binary32, add, sub, neg}
use Rattle.flex.proofs.Falls.{all_map}
use Rattle.flex.specs.declared.Item.{Item}
use Rattle.grid.specs.Floats.{nought, ◌⊕◌, ◌⊖◌}
use Rattle.flex.specs.Flex.{Cell, outer_now, total}
use Rattle.flex.proofs.Signs.{All}
use Rattle.flex_reach.proofs.Units.{px, Num, far, neg_num}
use Rattle.flex_reach.proofs.Plus.{Sum, sum_num, sum_near, sum-under}
use Rattle.flex_reach.proofs.Times.{nought_num}
use Rattle.flex_reach.proofs.Clamp.{Upto, bounded}
use Rattle.flex_reach.proofs.Totals.{count, count_most, count_none, count_long, Near, total_near, total-under}
use Rattle.flex_reach.proofs.Turn.{Fine, under, whole_of}

-- ---- a cell

-- the size that a cell takes: its target, or its base
abbrev pub held : Cell → Float
held c = cond c.frozen c.target c.item.base

abbrev pub margin : Item → Float
margin it = it.start ⊕ it.end

-- an unfrozen item's base is not above its hypothetical size where the line grows, nor below it where it shrinks
abbrev pub Way : Bool → Item → Type 0
Way true it = far false it.base ≤ bounded it (far false it.base)
Way false it = bounded it (far false it.base) ≤ far false it.base

pub record Sound (growing : Bool) (c : Cell) : Type 0 where
  pub item : Fine c.item
  pub size : Upto (262144 * px) (held c)
  pub way : c.frozen ≡ false → Way growing c.item

-- ---- a number of either sign, on each side

by_side : (k : Bool) (P : Bool → Type 0) → P false → P true → P k
by_side false P a b = a
by_side true P a b = b

both_sides : (m n : ℕ) (x : Float) → ((h : Bool) → far h x ≤ m * px) → m + m ≡ n → far false x + far true x ≤ n * px
both_sides m n x h e = go (far false x) (far true x) px n (h false) (h true) e
  where
    go : (a b p n : ℕ) → a ≤ m * p → b ≤ m * p → m + m ≡ n → a + b ≤ n * p
    go a b p n h k e = subst (λ (i : ℕ). a + b ≤ i * p) e (omega arith)

upto_sides : {n : ℕ} {x : Float} → Upto n x → (h : Bool) → far h x ≤ n
upto_sides u h = by_side h (λ k. far k _ ≤ _) u.most (le_trans (le_of_eq u.above) zero-le)

pub record Lies (n : ℕ) (x y z : Float) : Type 0 where
  pub num : Num z
  pub most : (h : Bool) → far h z ≤ n
  pub near_f : far false z + far true x + far true y ≤ far true z + far false x + far false y + px
  pub near_t : far true z + far false x + far false y ≤ far false z + far true x + far true y + px

-- the sum of two numbers of at most m and n pixels
lies : (m n : ℕ) (x y : Float) → Num x → Num y → ((h : Bool) → far h x ≤ m * px) → ((h : Bool) → far h y ≤ n * px) → m + n ≤ 16777216 → m + m ≤ 33554432 → n + n ≤ 33554432 → Lies ((m + n + 1) * px) x y (x ⊕ y)
lies m n x y p q h k l lm ln =
    let r : Sum x y (x ⊕ y) = sum_num p q (under (m + m) (le_trans lm (lit≤ tt)) (both_sides m (m + m) x h refl)) (under (n + n) (le_trans ln (lit≤ tt)) (both_sides n (n + n) y k refl)) in
    let b : (g : Bool) → far g x + far g y ≤ 16777216 * px = λ g. fit (far g x) (far g y) px (h g) (k g) (mul-le-mul_right px l) in
    record {
      num = r.num;
      most = λ g. most (far g (x ⊕ y)) (far g x) (far g y) px (sum-under r px b g) (h g) (k g);
      near_f = sum_near r px b false;
      near_t = sum_near r px b true;
    }
  where
    fit : (a b p : ℕ) → a ≤ m * p → b ≤ n * p → (m + n) * p ≤ 16777216 * p → a + b ≤ 16777216 * p
    fit a b p h k l = omega arith

    most : (z a b p : ℕ) → z ≤ a + b + p → a ≤ m * p → b ≤ n * p → z ≤ (m + n + 1) * p
    most z a b p h k l = omega arith

pub margin_lies : {it : Item} → Fine it → Lies (262145 * px) it.start it.end (margin it)
margin_lies {it} f = lies 131072 131072 it.start it.end f.start f.end f.start_small f.end_small (lit≤ tt) (lit≤ tt) (lit≤ tt)

taken_lies : {g : Bool} {c : Cell} → Sound g c → Lies (524290 * px) (held c) (margin c.item) (outer_now c)
taken_lies {g} {c} s = lies 262144 262145 (held c) (margin c.item) s.size.num (margin_lies s.item).num (upto_sides s.size) (margin_lies s.item).most (lit≤ tt) (lit≤ tt) (lit≤ tt)

-- ---- the sum over a line

taken_f : (g : Bool) (l : List Cell) → All (Sound g) l → count (λ c. far false (outer_now c)) l + count (λ c. far true (held c)) l + count (λ c. far true (margin c.item)) l
    ≤ count (λ c. far true (outer_now c)) l + count (λ c. far false (held c)) l + count (λ c. far false (margin c.item)) l + count (λ c. px) l
unfolding count
taken_f g [] h = lit≤ tt
taken_f g (c ∷ l) h = add (far false (outer_now c)) (far true (held c)) (far true (margin c.item)) (far true (outer_now c)) (far false (held c)) (far false (margin c.item)) px
    (count (λ c. far false (outer_now c)) l) (count (λ c. far true (held c)) l) (count (λ c. far true (margin c.item)) l) (count (λ c. far true (outer_now c)) l) (count (λ c. far false (held c)) l) (count (λ c. far false (margin c.item)) l) (count (λ c. px) l)
    (taken_lies h.0).near_f (taken_f g l h.1)
  where
    add : (a b c d e f p A B C D E F P : ℕ) → a + b + c ≤ d + e + f + p → A + B + C ≤ D + E + F + P → a + A + (b + B) + (c + C) ≤ d + D + (e + E) + (f + F) + (p + P)
    add a b c d e f p A B C D E F P h k = omega arith

taken_t : (g : Bool) (l : List Cell) → All (Sound g) l → count (λ c. far true (outer_now c)) l + count (λ c. far false (held c)) l + count (λ c. far false (margin c.item)) l
    ≤ count (λ c. far false (outer_now c)) l + count (λ c. far true (held c)) l + count (λ c. far true (margin c.item)) l + count (λ c. px) l
unfolding count
taken_t g [] h = lit≤ tt
taken_t g (c ∷ l) h = add (far true (outer_now c)) (far false (held c)) (far false (margin c.item)) (far false (outer_now c)) (far true (held c)) (far true (margin c.item)) px
    (count (λ c. far true (outer_now c)) l) (count (λ c. far false (held c)) l) (count (λ c. far false (margin c.item)) l) (count (λ c. far false (outer_now c)) l) (count (λ c. far true (held c)) l) (count (λ c. far true (margin c.item)) l) (count (λ c. px) l)
    (taken_lies h.0).near_t (taken_t g l h.1)
  where
    add : (a b c d e f p A B C D E F P : ℕ) → a + b + c ≤ d + e + f + p → A + B + C ≤ D + E + F + P → a + A + (b + B) + (c + C) ≤ d + D + (e + E) + (f + F) + (p + P)
    add a b c d e f p A B C D E F P h k = omega arith

-- ---- the remaining free space

-- what the sizes leave, and what margins and gaps take: r is `have` less `used` and the sizes, but for 131,072 px
pub record Room (have used sizes : ℕ) (r : Float) : Type 0 where
  pub num : Num r
  pub most : (h : Bool) → far h r ≤ 1073741824 * px
  pub least : far true r + have ≤ far false r + (used + sizes) + 131072 * px
  pub largest : far false r + (used + sizes) ≤ far true r + have + 131072 * px

abbrev pub haves : Float → List Cell → ℕ
haves inner cells = far false inner + count (λ c. far true (margin c.item)) cells

abbrev pub useds : Float → List Cell → ℕ
useds gaps cells = far false gaps + count (λ c. far false (margin c.item)) cells

abbrev pub sizes : List Cell → ℕ
sizes cells = count (λ c. far false (held c)) cells

pub room : (g : Bool) (inner gaps : Float) (cells : List Cell) → Upto (262144 * px) inner → Upto (262145 * px) gaps → All (Sound g) cells → length cells ≤ 1024
    → Room (haves inner cells) (useds gaps cells) (sizes cells) (inner ⊖ (gaps ⊕ total outer_now cells))
unfolding sub
room g inner gaps cells I G ok n =
    let z : Float = total outer_now cells in
    let big : 33554432 * (64 * px) ≤ 2 ^ 248 = under 2147483648 (lit≤ tt) (le_of_eq (re px)) in
    let most : (h : Bool) → count (λ c. far h (outer_now c)) cells ≤ 1024 * (524290 * px) = λ h. count_most (λ c. far h (outer_now c)) (524290 * px) 1024 cells (all_map (λ c s. (taken_lies s).most h) cells ok) n in
    let ms : count (λ c. 64 * px) cells ≤ 1024 * (64 * px) = le_trans (le_of_eq (count_long (64 * px) cells)) (mul-le-mul_right (64 * px) n) in
    let ps : count (λ c. px) cells ≤ 1024 * px = le_trans (le_of_eq (count_long px cells)) (mul-le-mul_right px n) in
    let N : Near (64 * px) big outer_now nought cells z = total_near (64 * px) big outer_now nought cells nought_num.0 (all_map (λ c s. (taken_lies s).num) cells ok)
    (λ h. fits (far h nought) (count (λ c. far h (outer_now c)) cells) (count (λ c. 64 * px) cells) px (nought_num.1 h) (most h) ms) in
    let zm : (h : Bool) → far h z ≤ 537000000 * px = λ h. small (far h z) (far h nought) (count (λ c. far h (outer_now c)) cells) (count (λ c. 64 * px) cells) px (total-under (64 * px) big outer_now nought cells z N h) (nought_num.1 h) (most h) ms in
    let Y : Sum gaps z (gaps ⊕ z) = sum_num G.num N.num (under 262145 (lit≤ tt) (whole_of G)) (under 1074000000 (lit≤ tt) (both_sides 537000000 1074000000 z zm refl)) in
    let yb : (h : Bool) → far h gaps + far h z ≤ 16777216 * (64 * px) = λ h. fit_y (far h gaps) (far h z) px (upto_sides G h) (zm h) in
    let ym : (h : Bool) → far h (gaps ⊕ z) ≤ 538000000 * px = λ h. most_y (far h (gaps ⊕ z)) (far h gaps) (far h z) px (sum-under Y (64 * px) yb h) (upto_sides G h) (zm h) in
    let e = neg_num Y.num in
    let R : Sum inner (neg (gaps ⊕ z)) (add binary32 inner (neg (gaps ⊕ z))) = sum_num I.num e.0 (under 262144 (lit≤ tt) (whole_of I))
    (under 1076000000 (lit≤ tt) (both_sides 538000000 1076000000 (neg (gaps ⊕ z)) (λ h. le_trans (le_of_eq (e.1 h)) (ym (not h))) refl)) in
    let rb : (h : Bool) → far h inner + far h (neg (gaps ⊕ z)) ≤ 16777216 * (64 * px) = λ h. fit_r (far h inner) (far h (neg (gaps ⊕ z))) px (upto_sides I h) (le_trans (le_of_eq (e.1 h)) (ym (not h))) in
    let none : count (λ c. far true (held c)) cells ≡ 0 = count_none (λ c. far true (held c)) cells (all_map (λ c s. s.size.above) cells ok) in
    let r : Float = add binary32 inner (neg (gaps ⊕ z)) in
    record {
      num = R.num;
      most = λ h. most_r (far h r) (far h inner) (far h (neg (gaps ⊕ z))) px (sum-under R (64 * px) rb h) (upto_sides I h) (le_trans (le_of_eq (e.1 h)) (ym (not h)));
      least = chain (far true r) (far false r) (far true inner) (far false inner) (far true (neg (gaps ⊕ z))) (far false (neg (gaps ⊕ z))) (far true (gaps ⊕ z)) (far false (gaps ⊕ z)) (far true gaps) (far false gaps) (far true z) (far false z) (far true nought) (far false nought)
          (count (λ c. far true (outer_now c)) cells) (count (λ c. far false (outer_now c)) cells) (count (λ c. far true (held c)) cells) (count (λ c. far false (held c)) cells) (count (λ c. far true (margin c.item)) cells) (count (λ c. far false (margin c.item)) cells) (count (λ c. 64 * px) cells) (count (λ c. px) cells) px
          (sum_near R (64 * px) rb true) (e.1 true) (e.1 false) (sum_near Y (64 * px) yb false) (N.near false) (taken_f g cells ok) I.above G.above none (nought_num.1 true) (nought_num.1 false) ms ps;
      largest = back (far true r) (far false r) (far true inner) (far false inner) (far true (neg (gaps ⊕ z))) (far false (neg (gaps ⊕ z))) (far true (gaps ⊕ z)) (far false (gaps ⊕ z)) (far true gaps) (far false gaps) (far true z) (far false z) (far true nought) (far false nought)
          (count (λ c. far true (outer_now c)) cells) (count (λ c. far false (outer_now c)) cells) (count (λ c. far true (held c)) cells) (count (λ c. far false (held c)) cells) (count (λ c. far true (margin c.item)) cells) (count (λ c. far false (margin c.item)) cells) (count (λ c. 64 * px) cells) (count (λ c. px) cells) px
          (sum_near R (64 * px) rb false) (e.1 true) (e.1 false) (sum_near Y (64 * px) yb true) (N.near true) (taken_t g cells ok) I.above G.above none (nought_num.1 true) (nought_num.1 false) ms ps;
    }
  where
    re : (p : ℕ) → 33554432 * (64 * p) ≡ 2147483648 * p
    re p = omega arith

    fits : (s c d p : ℕ) → s ≡ 0 → c ≤ 1024 * (524290 * p) → d ≤ 1024 * (64 * p) → s + c + d ≤ 16777216 * (64 * p)
    fits s c d p e h k = omega arith

    small : (z s c d p : ℕ) → z ≤ s + c + d → s ≡ 0 → c ≤ 1024 * (524290 * p) → d ≤ 1024 * (64 * p) → z ≤ 537000000 * p
    small z s c d p h e k l = omega arith

    fit_y : (a b p : ℕ) → a ≤ 262145 * p → b ≤ 537000000 * p → a + b ≤ 16777216 * (64 * p)
    fit_y a b p h k = omega arith

    most_y : (y a b p : ℕ) → y ≤ a + b + 64 * p → a ≤ 262145 * p → b ≤ 537000000 * p → y ≤ 538000000 * p
    most_y y a b p h k l = omega arith

    fit_r : (a b p : ℕ) → a ≤ 262144 * p → b ≤ 538000000 * p → a + b ≤ 16777216 * (64 * p)
    fit_r a b p h k = omega arith

    most_r : (y a b p : ℕ) → y ≤ a + b + 64 * p → a ≤ 262144 * p → b ≤ 538000000 * p → y ≤ 1073741824 * p
    most_r y a b p h k l = omega arith

    chain : (rt rf it if nt nf yt yf gt gf zt zf ot of tt' tf ht hf mt mf d q p : ℕ)
        → rt + if + nf ≤ rf + it + nt + 64 * p → nt ≡ yf → nf ≡ yt → yf + gt + zt ≤ yt + gf + zf + 64 * p → zf + ot + tt' ≤ zt + of + tf + d → tf + ht + mt ≤ tt' + hf + mf + q
        → it ≡ 0 → gt ≡ 0 → ht ≡ 0 → ot ≡ 0 → of ≡ 0 → d ≤ 1024 * (64 * p) → q ≤ 1024 * p
        → rt + (if + mt) ≤ rf + (gf + mf + hf) + 131072 * p
    chain rt rf it if nt nf yt yf gt gf zt zf ot of tt' tf ht hf mt mf d q p a b c e f g h i j k l m n = omega arith

    back : (rt rf it if nt nf yt yf gt gf zt zf ot of tt' tf ht hf mt mf d q p : ℕ)
        → rf + it + nt ≤ rt + if + nf + 64 * p → nt ≡ yf → nf ≡ yt → yt + gf + zf ≤ yf + gt + zt + 64 * p → zt + of + tf ≤ zf + ot + tt' + d → tt' + hf + mf ≤ tf + ht + mt + q
        → it ≡ 0 → gt ≡ 0 → ht ≡ 0 → ot ≡ 0 → of ≡ 0 → d ≤ 1024 * (64 * p) → q ≤ 1024 * p
        → rf + (gf + mf + hf) ≤ rt + (if + mt) + 131072 * p
    back rt rf it if nt nf yt yf gt gf zt zf ot of tt' tf ht hf mt mf d q p a b c e f g h i j k l m n = omega arith
