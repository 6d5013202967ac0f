-- One item in one round, in units: its weight, the size that it flexes to, the clamped size and the violation, each near the exact one. Assumes nothing.
use mathlib.Core.Path.{◌≡◌, sym, ap, ap₂, ◌∙◌}
use mathlib.Core.Logic.{◌⊎◌, inl, inr}
use mathlib.Core.Bool.{Bool, true, false, not, cond, ◌||◌}
use Prim.Native.Nat.{ℕ, ◌+◌, ◌*◌, ◌^◌, ◌≤◌, ◌<◌, zero-le, max}
use native.Mathlib.Nat.{le_refl, le_trans, le_of_eq, mul-le-mul_right, zero-add}
use native.Mathlib.Omega.{arith}
use lib.Dec.{T, lit≤}
use lib.Ieee.{Float, binary32, eq, add, sub, neg}
use Rattle.flex.specs.declared.Item.{Item}
use Rattle.flex.specs.declared.Share.{Share}
use Rattle.grid.specs.Floats.{nought, ◌⊕◌, ◌⊖◌, ◌⊗◌, ◌⊘◌}
use Rattle.flex.specs.Flex.{clamp, inner_base, factor, weight, flexed}
use Rattle.flex_reach.proofs.Units.{px, Num, far, fl, fl_near, held_num, one_side, neg_num}
use Rattle.flex_reach.proofs.Plus.{Sum, sum_num, sum_near, sum-under, sum_side, sum_keeps}
use Rattle.flex_reach.proofs.Times.{product, product_within, product_zero, product_le, Product, mul_num, quotient, quotient_within, div_num, nought_num, eq-nought}
use Rattle.flex_reach.proofs.Clamp.{Upto, Sizes, raised_num, bounded, bounded_mono, bounded-under, clamp_num, floor, ceiling, raised_small, lowered_small}

-- ---- what an item's numbers are

pub record Fine (it : Item) : Type 0 where
  pub sizes : Sizes it
  pub grow : Upto (1024 * px) it.grow
  pub shrink : Upto (1024 * px) it.shrink
  pub start : Num it.start
  pub start_small : (g : Bool) → far g it.start ≤ 131072 * px
  pub end : Num it.end
  pub end_small : (g : Bool) → far g it.end ≤ 131072 * px

-- so many pixels are far from the largest floats
pub far_off : (n : ℕ) → n ≤ 2 ^ 90 → n * px ≤ 2 ^ 239
unfolding px
far_off n h = le_trans (mul-le-mul_right (2 ^ 149) h) (lit≤ tt)

pub under : (n : ℕ) → n ≤ 2 ^ 90 → {k : ℕ} → k ≤ n * px → k ≤ 2 ^ 248
under n h l = le_trans l (le_trans (far_off n h) (lit≤ tt))

pub factor_num : {it : Item} → Fine it → (g : Bool) → Upto (1024 * px) (factor g it)
factor_num f true = f.grow
factor_num f false = f.shrink

-- both sides of a number not below 0
pub whole_of : {n : ℕ} {x : Float} → Upto n x → far false x + far true x ≤ n
whole_of {n} {x} u = let a = u.above in let m = u.most in omega arith

pub upto_more : {m n : ℕ} {x : Float} → m ≤ n → Upto m x → Upto n x
upto_more h u = record { num = u.num; above = u.above; most = le_trans u.most h }

inner_num : {it : Item} → Fine it → Upto (262144 * px) (inner_base it)
unfolding sub
inner_num {it} f =
    let s = f.sizes in
    let e = neg_num s.edges.num in
    let r : Sum it.base (neg it.edges) (it.base ⊖ it.edges) = sum_num s.base.num e.0 (under 262144 (lit≤ tt) (whole_of s.base))
    (under 262144 (lit≤ tt) (le_trans (le_of_eq (ap₂ (λ (a b : ℕ). a + b) (e.1 false) (e.1 true))) (flip (far false it.edges) (far true it.edges) (262144 * px) (whole_of s.edges)))) in
    let z = raised_num r.num nought_num.0 (nought_num.1 true) in
    let k = sum_keeps r s.base.num true (e.1 false ∙ s.edges.above) in
    record { num = z.0; above = z.1; most = le_trans (le_of_eq (z.2 ∙ ap (λ (n : ℕ). max (far false (it.base ⊖ it.edges)) n) (nought_num.1 false))) (least (far false (it.base ⊖ it.edges)) (far true (it.base ⊖ it.edges)) (far false it.base) (far true it.base) (262144 * px) k s.base.most s.base.above (one_side r.num true)) }
  where
    flip : (a b n : ℕ) → a + b ≤ n → b + a ≤ n
    flip a b n h = omega arith

    least : (z z' b b' n : ℕ) → b' + z ≤ z' + b → b ≤ n → b' ≡ 0 → (z' ≡ 0) ⊎ (z ≡ 0) → max z 0 ≤ n
    least z z' b b' n h k e (inl o) = omega arith
    least z z' b b' n h k e (inr o) = omega arith

pub weight_num : {it : Item} → Fine it → (g : Bool) → Upto (536870912 * px) (weight g it)
weight_num f true = upto_more (mul-le-mul_right px (lit≤ tt)) f.grow
weight_num {it} f false =
    let b = inner_num f in
    let r : Product (inner_base it) it.shrink (inner_base it ⊗ it.shrink) = mul_num b.num f.shrink.num f.shrink.above f.shrink.most (le_trans (whole_of b) (far_off 262144 (lit≤ tt))) in
    record {
      num = r.num;
      above = r.size true ∙ ap (λ (n : ℕ). product n (far false it.shrink)) b.above ∙ product_zero (far false it.shrink);
      most = le_trans (le_of_eq (r.size false)) (le_trans (product_le (far false (inner_base it)) (far false it.shrink) 1024 f.shrink.most) (near (far false (inner_base it)) (fl (1024 * far false (inner_base it))) px b.most (fl_near (1024 * far false (inner_base it))).0));
    }
  where
    near : (a m p : ℕ) → a ≤ 262144 * p → 16777216 * m ≤ 16777216 * (1024 * a) + 1024 * a → m ≤ 536870912 * p
    near a m p h k = omega arith

-- ---- the part of the free space that an item gets

unfoldable pub part : Bool → Share → Item → ℕ
part g sh it = cond (eq sh.free nought || eq sh.weights nought) 0 (product (far g sh.free) (quotient (far false (weight sh.growing it)) (far false sh.weights)))

-- what a round shares out: on the side g, and at most 2 ^ 30 px
pub record Shares (g : Bool) (sh : Share) : Type 0 where
  pub free : Num sh.free
  pub other : far (not g) sh.free ≡ 0
  pub most : far g sh.free ≤ 1073741824 * px
  pub weights : Num sh.weights
  pub weights_above : far true sh.weights ≡ 0

-- x is the item's base, moved toward g by d units but for a rounding
pub record Moved (g : Bool) (d : ℕ) (it : Item) (x : Float) : Type 0 where
  pub num : Num x
  pub keeps : far g it.base + far (not g) x ≤ far g x + far (not g) it.base
  pub near : far g x + far (not g) it.base ≤ far (not g) x + far g it.base + d + 128 * px
  pub whole : far false x + far true x ≤ far false it.base + d + 128 * px

moved_none : (g : Bool) (it : Item) → Fine it → Moved g 0 it it.base
moved_none g it f = record {
  num = f.sizes.base.num;
  keeps = le_refl (far g it.base + far (not g) it.base);
  near = swap (far g it.base) (far (not g) it.base) px;
  whole = alone (far false it.base) (far true it.base) px f.sizes.base.above;
}
  where
    swap : (a b p : ℕ) → a + b ≤ b + a + 0 + 128 * p
    swap a b p = omega arith

    alone : (a b p : ℕ) → b ≡ 0 → a + b ≤ a + 0 + 128 * p
    alone a b p e = omega arith

-- of a number on the side g, the amount on the side h
upto_side : (g h : Bool) (x : Float) (n : ℕ) → far g x ≤ n → far (not g) x ≡ 0 → far h x ≤ n
upto_side true true x n l e = l
upto_side false false x n l e = l
upto_side true false x n l e = le_trans (le_of_eq e) zero-le
upto_side false true x n l e = le_trans (le_of_eq e) zero-le

moved_by : (g : Bool) (it : Item) → Fine it → (y : Float) (d : ℕ) → Num y → far g y ≡ d → far (not g) y ≡ 0 → d ≤ 1073741824 * px → Moved g d it (it.base ⊕ y)
moved_by g it f y d p e n l =
    let B = f.sizes.base in
    let m : far g y ≤ 1073741824 * px = le_trans (le_of_eq e) l in
    let r : Sum it.base y (it.base ⊕ y) = sum_num B.num p (under 262144 (lit≤ tt) (whole_of B)) (under 2147483648 (lit≤ tt) (two (far false y) (far true y) px (upto_side g false y (1073741824 * px) m n) (upto_side g true y (1073741824 * px) m n))) in
    let h : (k : Bool) → far k it.base + far k y ≤ 16777216 * (128 * px) = λ k. fit (far k it.base) (far k y) px (upto_side false k it.base (262144 * px) B.most B.above) (upto_side g k y (1073741824 * px) m n) in
    record {
      num = r.num;
      keeps = sum_keeps r B.num g n;
      near = close (far g (it.base ⊕ y)) (far (not g) (it.base ⊕ y)) (far g it.base) (far (not g) it.base) (far g y) (far (not g) y) d (128 * px) e n (sum_near r (128 * px) h g);
      whole = either (far false (it.base ⊕ y)) (far true (it.base ⊕ y)) (far false it.base) (far true it.base) (far false y) (far true y) d (128 * px) (sum-under r (128 * px) h false) (sum-under r (128 * px) h true)
          (one_side r.num true) B.above (upto_side g false y d (le_of_eq e) n) (upto_side g true y d (le_of_eq e) n);
    }
  where
    two : (a b p : ℕ) → a ≤ 1073741824 * p → b ≤ 1073741824 * p → a + b ≤ 2147483648 * p
    two a b p h k = omega arith

    fit : (a b p : ℕ) → a ≤ 262144 * p → b ≤ 1073741824 * p → a + b ≤ 16777216 * (128 * p)
    fit a b p h k = omega arith

    close : (z z' b b' y y' d M : ℕ) → y ≡ d → y' ≡ 0 → z + b' + y' ≤ z' + b + y + M → z + b' ≤ z' + b + d + M
    close z z' b b' y y' d M e e' h = omega arith

    either : (z z' b b' y y' d M : ℕ) → z ≤ b + y + M → z' ≤ b' + y' + M → (z' ≡ 0) ⊎ (z ≡ 0) → b' ≡ 0 → y ≤ d → y' ≤ d → z + z' ≤ b + d + M
    either z z' b b' y y' d M h k (inl o) e l l' = omega arith
    either z z' b b' y y' d M h k (inr o) e l l' = omega arith

module _ (g : Bool) (sh : Share) (s : Shares g sh) (it : Item) (f : Fine it) (le : far false (weight sh.growing it) ≤ far false sh.weights) where
  pub part_most : part g sh it ≤ far g sh.free
  unfolding part
  part_most = go (eq sh.free nought) (eq sh.weights nought) (eq-nought s.weights).1
    where
      go : (a b : Bool) → (T (not b) → 0 < far false sh.weights + far true sh.weights) → cond (a || b) 0 (product (far g sh.free) (quotient (far false (weight sh.growing it)) (far false sh.weights))) ≤ far g sh.free
      go true b h = zero-le
      go false true h = zero-le
      go false false h =
          let z = s.weights_above in
          let k = h tt in
          product_within (far g sh.free) (quotient (far false (weight sh.growing it)) (far false sh.weights)) (held_num s.free g) (quotient_within (far false (weight sh.growing it)) (far false sh.weights) (omega arith) le)

  pub flexed_num : Moved g (part g sh it) it (flexed sh it)
  unfolding flexed part
  flexed_num = go (eq sh.free nought) (eq sh.weights nought) (eq-nought s.weights).1
    where
      w : Float
      w = weight sh.growing it

      P : ℕ
      P = product (far g sh.free) (quotient (far false (weight sh.growing it)) (far false sh.weights))

      positive : (a b : ℕ) → b ≡ 0 → 0 < a + b → 0 < a
      positive a b e h = omega arith

      shared : 0 < far false sh.weights → Moved g P it (it.base ⊕ sh.free ⊗ (weight sh.growing it ⊘ sh.weights))
      shared W0 =
          let u = weight_num f sh.growing in
          let Q = div_num u.num s.weights u.above s.weights_above W0 le in
          let ql = le_trans (le_of_eq Q.above) (quotient_within (far false (weight sh.growing it)) (far false sh.weights) W0 le) in
          let D = mul_num s.free Q.num Q.below (le_trans ql (wide px)) (sides g sh.free s.most s.other) in
          moved_by g it f (sh.free ⊗ (weight sh.growing it ⊘ sh.weights)) P D.num
          (D.size g ∙ ap (λ (n : ℕ). product (far g sh.free) n) Q.above)
          (D.size (not g) ∙ ap (λ (n : ℕ). product n (far false (weight sh.growing it ⊘ sh.weights))) s.other ∙ product_zero (far false (weight sh.growing it ⊘ sh.weights)))
          (le_trans (product_within (far g sh.free) (quotient (far false (weight sh.growing it)) (far false sh.weights)) (held_num s.free g) (quotient_within (far false (weight sh.growing it)) (far false sh.weights) W0 le)) s.most)
        where
          wide : (p : ℕ) → p ≤ 1024 * p
          wide p = omega arith

          sides : (g : Bool) (x : Float) → far g x ≤ 1073741824 * px → far (not g) x ≡ 0 → far false x + far true x ≤ 2 ^ 239
          sides g x l e = le_trans (both (far false x) (far true x) px (upto_side g false x (1073741824 * px) l e) (upto_side g true x (1073741824 * px) l e)) (far_off 2147483648 (lit≤ tt))
            where
              both : (a b p : ℕ) → a ≤ 1073741824 * p → b ≤ 1073741824 * p → a + b ≤ 2147483648 * p
              both a b p h k = omega arith

      go : (a b : Bool) → (T (not b) → 0 < far false sh.weights + far true sh.weights)
          → Moved g (cond (a || b) 0 P) it (cond (a || b) it.base (it.base ⊕ sh.free ⊗ (weight sh.growing it ⊘ sh.weights)))
      go true b h = moved_none g it f
      go false true h = moved_none g it f
      go false false h = shared (positive (far false sh.weights) (far true sh.weights) s.weights_above (h tt))

-- ---- the clamped size, and the violation

-- an item in a round that shares out on the side g: c is the clamped size, v the violation
pub record Turn (g : Bool) (d : ℕ) (it : Item) (x c v : Float) : Type 0 where
  pub moved : Moved g d it x
  pub clamped : Num c
  pub clamped_above : far true c ≡ 0
  pub clamped_is : far false c ≡ bounded it (far false x)
  pub violated : Num v
  pub violated_most : (h : Bool) → far h v ≤ d + 1048576 * px
  pub balance : far (not g) v + far g c + far (not g) it.base ≤ far g v + far (not g) c + far g it.base + d + 384 * px
  pub raised : 0 < far false v → ((b : ℕ) → far false c ≤ bounded it b) × (far false c ≤ 262144 * px) × (far false x ≤ far false c)
  pub lowered : 0 < far true v → ((b : ℕ) → bounded it b ≤ far false c) × (far false c ≤ 262144 * px)

module _ (g : Bool) (d : ℕ) (it : Item) (x : Float) (f : Fine it) (m : Moved g d it x) (dm : d ≤ 1073741824 * px) where
  all_x : far false x + far true x ≤ 1074004096 * px
  all_x = go (far false x + far true x) (far false it.base) d px m.whole f.sizes.base.most dm
    where
      go : (a b d p : ℕ) → a ≤ b + d + 128 * p → b ≤ 262144 * p → d ≤ 1073741824 * p → a ≤ 1074004096 * p
      go a b d p h k l = omega arith

  some_x : far false x ≤ 1152921504606846976 * px
  some_x = go (far false x) (far true x) px all_x
    where
      go : (a b p : ℕ) → a + b ≤ 1074004096 * p → a ≤ 1152921504606846976 * p
      go a b p h = omega arith

  pub turn : Turn g d it x (clamp it x) (clamp it x ⊖ x)
  unfolding sub
  turn =
      let c = clamp_num f.sizes m.num some_x in
      let n = neg_num m.num in
      let cu : far false (clamp it x) ≤ far false x + 262144 * px = le_trans (le_of_eq c.2) (bounded-under f.sizes (far false x)) in
      let r : Sum (clamp it x) (neg x) (add binary32 (clamp it x) (neg x)) = sum_num c.0 n.0
      (under 1074266240 (lit≤ tt) (fit (far false (clamp it x)) (far true (clamp it x)) (far false x) (far true x) px cu c.1 all_x))
      (under 1074004096 (lit≤ tt) (turned (far false (neg x)) (far true (neg x)) (far false x) (far true x) (1074004096 * px) (n.1 false) (n.1 true) all_x)) in
      let h : (k : Bool) → far k (clamp it x) + far k (neg x) ≤ 16777216 * (256 * px) = λ k. by_side k (λ k. far k (clamp it x) + far k (neg x) ≤ 16777216 * (256 * px))
      (fit_f (far false (clamp it x)) (far false (neg x)) (far false x) (far true x) px cu (n.1 false) all_x) (fit_t (far true (clamp it x)) (far true (neg x)) (far false x) (far true x) px c.1 (n.1 true) all_x) in
      let v : Float = add binary32 (clamp it x) (neg x) in
      let w = m.whole in
      let B = f.sizes.base.most in
      record {
        moved = m;
        clamped = c.0;
        clamped_above = c.1;
        clamped_is = c.2;
        violated = r.num;
        violated_most = λ k. by_side k (λ k. far k v ≤ d + 1048576 * px)
            (most_f (far false v) (far false (clamp it x)) (far false (neg x)) (far false x) (far true x) (far false it.base) d px (sum-under r (256 * px) h false) cu (n.1 false) w B)
            (most_t (far true v) (far true (clamp it x)) (far true (neg x)) (far false x) (far true x) (far false it.base) d px (sum-under r (256 * px) h true) c.1 (n.1 true) w B);
        balance = weigh (far g v) (far (not g) v) (far g (clamp it x)) (far (not g) (clamp it x)) (far g (neg x)) (far (not g) (neg x)) (far g x) (far (not g) x) (far g it.base) (far (not g) it.base) d px
            (sides g (λ k. sum_near r (256 * px) h k)) (n.1 g) (other g n.1) m.near;
        raised = λ l. lift (far false (clamp it x)) (far true (clamp it x)) (far false (neg x)) (far true (neg x)) (sum_side r false l) (n.1 false) (n.1 true) c.1 c.2 (one_side m.num true);
        lowered = λ l. fall (far false (clamp it x)) (far true (clamp it x)) (far false (neg x)) (far true (neg x)) (sum_side r true l) (n.1 false) (n.1 true) c.1 c.2;
      }
    where
      by_side : (k : Bool) (P : Bool → Type 0) → P false → P true → P k
      by_side false P a b = a
      by_side true P a b = b

      fit : (c c' x x' p : ℕ) → c ≤ x + 262144 * p → c' ≡ 0 → x + x' ≤ 1074004096 * p → c + c' ≤ 1074266240 * p
      fit c c' x x' p h e k = omega arith

      turned : (n n' x x' b : ℕ) → n ≡ x' → n' ≡ x → x + x' ≤ b → n + n' ≤ b
      turned n n' x x' b e e' h = omega arith

      fit_f : (c n x x' p : ℕ) → c ≤ x + 262144 * p → n ≡ x' → x + x' ≤ 1074004096 * p → c + n ≤ 16777216 * (256 * p)
      fit_f c n x x' p h e k = omega arith

      fit_t : (c n x x' p : ℕ) → c ≡ 0 → n ≡ x → x + x' ≤ 1074004096 * p → c + n ≤ 16777216 * (256 * p)
      fit_t c n x x' p h e k = omega arith

      most_f : (v c n x x' b d p : ℕ) → v ≤ c + n + 256 * p → c ≤ x + 262144 * p → n ≡ x' → x + x' ≤ b + d + 128 * p → b ≤ 262144 * p → v ≤ d + 1048576 * p
      most_f v c n x x' b d p h k e l o = omega arith

      most_t : (v c n x x' b d p : ℕ) → v ≤ c + n + 256 * p → c ≡ 0 → n ≡ x → x + x' ≤ b + d + 128 * p → b ≤ 262144 * p → v ≤ d + 1048576 * p
      most_t v c n x x' b d p h k e l o = omega arith

      sides : (g : Bool) → ((k : Bool) → far k (add binary32 (clamp it x) (neg x)) + far (not k) (clamp it x) + far (not k) (neg x) ≤ far (not k) (add binary32 (clamp it x) (neg x)) + far k (clamp it x) + far k (neg x) + 256 * px)
          → far (not g) (add binary32 (clamp it x) (neg x)) + far g (clamp it x) + far g (neg x) ≤ far g (add binary32 (clamp it x) (neg x)) + far (not g) (clamp it x) + far (not g) (neg x) + 256 * px
      sides true h = h false
      sides false h = h true

      other : (g : Bool) → ((k : Bool) → far k (neg x) ≡ far (not k) x) → far (not g) (neg x) ≡ far g x
      other true h = h false
      other false h = h true

      weigh : (v v' c c' n n' x x' b b' d p : ℕ) → v' + c + n ≤ v + c' + n' + 256 * p → n ≡ x' → n' ≡ x → x + b' ≤ x' + b + d + 128 * p → v' + c + b' ≤ v + c' + b + d + 384 * p
      weigh v v' c c' n n' x x' b b' d p h e e' k = omega arith

      lift : (c c' n n' : ℕ) → c' + n' < c + n → n ≡ far true x → n' ≡ far false x → c' ≡ 0 → c ≡ bounded it (far false x) → (far true x ≡ 0) ⊎ (far false x ≡ 0) → ((b : ℕ) → c ≤ bounded it b) × (c ≤ 262144 * px) × (far false x ≤ c)
      lift c c' n n' h e e' z k (inl o) =
          let l : far false x < bounded it (far false x) = omega arith in
          ((λ b. le_trans (le_of_eq k) (floor it (far false x) b l)), le_trans (le_of_eq k) (raised_small f.sizes (far false x) l), omega arith)
      lift c c' n n' h e e' z k (inr o) = go c k (far false x) o
        where
          -- a number below 0 becomes what 0 becomes
          go : (c : ℕ) → c ≡ bounded it (far false x) → (a : ℕ) → far false x ≡ 0 → ((b : ℕ) → c ≤ bounded it b) × (c ≤ 262144 * px) × (far false x ≤ c)
          go c k a o = (
            (λ b. le_trans (le_of_eq (k ∙ ap (λ (n : ℕ). bounded it n) o)) (bounded_mono it 0 b zero-le)),
            le_trans (le_of_eq (k ∙ ap (λ (n : ℕ). bounded it n) o)) (le_trans (bounded-under f.sizes 0) (le_of_eq (zero-add (262144 * px)))),
            le_trans (le_of_eq o) zero-le,
          )

      fall : (c c' n n' : ℕ) → c + n < c' + n' → n ≡ far true x → n' ≡ far false x → c' ≡ 0 → c ≡ bounded it (far false x) → ((b : ℕ) → bounded it b ≤ c) × (c ≤ 262144 * px)
      fall c c' n n' h e e' z k =
          let l : bounded it (far false x) < far false x = omega arith in
          ((λ b. le_trans (ceiling it (far false x) b l) (le_of_eq (sym k))), le_trans (le_of_eq k) (lowered_small f.sizes (far false x) some_x l))
