-- The sum of two floats in units, as long as nothing comes near the largest floats: which side of 0 it is on, how far it is moved by rounding,
-- and that it keeps the order. Assumes nothing.
use mathlib.Core.Path.{◌≡◌, refl, sym, ap, ap₂, ◌∙◌, subst}
use mathlib.Core.Logic.{◌⊎◌, inl, inr}
use mathlib.Core.Bool.{Bool, true, false, not, cond}
use Prim.Native.Nat.{ℕ, ◌+◌, ◌-◌, ◌*◌, ◌^◌, ◌≤◌, ◌<◌}
use native.Mathlib.Nat.{le_trans, mul-le-mul_right, le_of_mul-le-mul_right, mul-pos}
use native.Mathlib.Omega.{arith}
use lib.Dec.{T, ltb, ltb→lt, nltb→le}
use lib.Ieee.{Float, nan, inf, fin, binary32, up, down, round, sum, add}
use lib.Ieee.Fits.{down_pos}
use lib.Ieee.Exact.{HasValue}
use lib.Ieee.Scale.{grid}
use Rattle.grid.proofs.Exact.{left_of, right_of, sum_of, sub_of, less_of}
use Rattle.flex_reach.proofs.Units.{px, px_pos, Num, side, far, far_is, fl, fl_near, fl_mono, fl_zero, held_num, grid_same, round_num, small, side_own, side_other, both, one_side}

-- ---- the sum

-- z is x + y rounded: on the side `toward`, and `exact` units before it was rounded
pub record Sum (x y z : Float) : Type 0 where
  pub toward : Bool
  pub exact : ℕ
  pub sum_is : far toward x + far toward y ≡ far (not toward) x + far (not toward) y + exact
  pub here : far toward z ≡ fl exact
  pub there : far (not toward) z ≡ 0
  pub num : Num z

record Total (s : Bool) (A : ℕ) (t : Bool) (B : ℕ) (z : Float) : Type 0 where
  toward : Bool
  exact : ℕ
  sum_is : side toward s A + side toward t B ≡ side (not toward) s A + side (not toward) t B + exact
  value : HasValue z toward (fl exact) px
  num : Num z

rounded : (g : Bool) (a c n : ℕ) → 0 < c → a * px ≡ n * c → n ≤ 2 ^ 249 → Num (round binary32 g a c) × HasValue (round binary32 g a c) g (fl n) px
unfolding fl
rounded g a c n C e h =
    let same : grid binary32 a c ≡ fl n = grid_same a c n px C px_pos e in
    let r = round_num g a c C (subst (λ (k : ℕ). k ≤ 2 ^ 250) (sym same) (small n h)) in
    (r.0, subst (λ (k : ℕ). HasValue (round binary32 g a c) g k px) same r.1)

module _ (X Y A B c : ℕ) (C : 0 < c) (ea : X * px ≡ A * c) (eb : Y * px ≡ B * c) where
  le_of : X ≤ Y → A ≤ B
  le_of h = le_of_mul-le-mul_right (subst (λ (n : ℕ). n ≤ B * c) ea (subst (λ (n : ℕ). X * px ≤ n) eb (mul-le-mul_right px h))) C

part_r : (a b c : ℕ) → a + b ≤ c → b - a ≤ c
part_r a b c h = omega arith

part_l : (a b c : ℕ) → a + b ≤ c → a - b ≤ c
part_l a b c h = omega arith

total : (s : Bool) (X : ℕ) (t : Bool) (Y c A B : ℕ) → 0 < c → X * px ≡ A * c → Y * px ≡ B * c → A + B ≤ 2 ^ 249 → Total s A t B (sum binary32 s X t Y c)
unfolding sum
total false X false Y c A B C ea eb h =
    let r = rounded false (X + Y) c (A + B) C (sum_of X Y A B c px px_pos C ea eb) h in
    record { toward = false; exact = A + B; sum_is = omega arith; value = r.1; num = r.0 }
total true X true Y c A B C ea eb h =
    let r = rounded true (X + Y) c (A + B) C (sum_of X Y A B c px px_pos C ea eb) h in
    record { toward = true; exact = A + B; sum_is = omega arith; value = r.1; num = r.0 }
total false X true Y c A B C ea eb h = go (ltb X Y) (ltb→lt X Y) (nltb→le X Y)
  where
    go : (b : Bool) → (T b → X < Y) → (T (not b) → Y ≤ X) → Total false A true B (cond b (round binary32 true (Y - X) c) (round binary32 false (X - Y) c))
    go true l m =
        let le : A < B = less_of X Y A B c px px_pos C ea eb (l tt) in
        let r = rounded true (Y - X) c (B - A) C (sub_of Y X B A c px px_pos C eb ea) (part_r A B (2 ^ 249) h) in
        record { toward = true; exact = B - A; sum_is = omega arith; value = r.1; num = r.0 }
    go false l m =
        let le : B ≤ A = le_of Y X B A c C eb ea (m tt) in
        let r = rounded false (X - Y) c (A - B) C (sub_of X Y A B c px px_pos C ea eb) (part_l A B (2 ^ 249) h) in
        record { toward = false; exact = A - B; sum_is = omega arith; value = r.1; num = r.0 }
total true X false Y c A B C ea eb h = go (ltb X Y) (ltb→lt X Y) (nltb→le X Y)
  where
    last : (b : Bool) → (T (not b) → X ≤ Y) → Y ≤ X → Total true A false B (round binary32 b (X - Y) c)
    last true m l =
        let le : B ≤ A = le_of Y X B A c C eb ea l in
        let r = rounded true (X - Y) c (A - B) C (sub_of X Y A B c px px_pos C ea eb) (part_l A B (2 ^ 249) h) in
        record { toward = true; exact = A - B; sum_is = omega arith; value = r.1; num = r.0 }
    last false m l =
        let le : B ≤ A = le_of Y X B A c C eb ea l in
        let ge : A ≤ B = le_of X Y A B c C ea eb (m tt) in
        let r = rounded false (X - Y) c (A - B) C (sub_of X Y A B c px px_pos C ea eb) (part_l A B (2 ^ 249) h) in
        record { toward = false; exact = A - B; sum_is = omega arith; value = r.1; num = r.0 }

    go : (b : Bool) → (T b → X < Y) → (T (not b) → Y ≤ X) → Total true A false B (cond b (round binary32 false (Y - X) c) (round binary32 (ltb Y X) (X - Y) c))
    go true l m =
        let le : A < B = less_of X Y A B c px px_pos C ea eb (l tt) in
        let r = rounded false (Y - X) c (B - A) C (sub_of Y X B A c px px_pos C eb ea) (part_r A B (2 ^ 249) h) in
        record { toward = false; exact = B - A; sum_is = omega arith; value = r.1; num = r.0 }
    go false l m = last (ltb Y X) (nltb→le Y X) (m tt)

pub sum_num : {x y : Float} → Num x → Num y → far false x + far true x ≤ 2 ^ 248 → far false y + far true y ≤ 2 ^ 248 → Sum x y (add binary32 x y)
unfolding add
sum_num {x} {y} p q h k = go x y p.value q.value h k
  where
    A : ℕ
    A = p.digits * 2 ^ p.shift

    B : ℕ
    B = q.digits * 2 ^ q.shift

    s : Bool
    s = p.sign

    t : Bool
    t = q.sign

    under : (x : Float) (s : Bool) (n : ℕ) → HasValue x s n px → far false x + far true x ≤ 2 ^ 248 → n ≤ 2 ^ 248
    under x s n v h = subst (λ (k : ℕ). k ≤ 2 ^ 248) (ap₂ (λ (a b : ℕ). a + b) (far_is false x s n v) (far_is true x s n v) ∙ both s n) h

    twice : (a b : ℕ) → a ≤ 2 ^ 248 → b ≤ 2 ^ 248 → a + b ≤ 2 ^ 249
    twice a b h k = subst (λ (n : ℕ). a + b ≤ n) {x = 2 ^ 248 + 2 ^ 248} refl (native.Mathlib.Nat.add-le-add h k)

    finish : (x y z : Float) → HasValue x s A px → HasValue y t B px → Total s A t B z → Sum x y z
    finish x y z v w r = record {
      toward = r.toward;
      exact = r.exact;
      sum_is = ap₂ (λ (a b : ℕ). a + b) (far_is r.toward x s A v) (far_is r.toward y t B w) ∙ r.sum_is
          ∙ sym (ap₂ (λ (a b : ℕ). a + b + r.exact) (far_is (not r.toward) x s A v) (far_is (not r.toward) y t B w));
      here = far_is r.toward z r.toward (fl r.exact) r.value ∙ side_own r.toward (fl r.exact);
      there = far_is (not r.toward) z r.toward (fl r.exact) r.value ∙ side_other r.toward (fl r.exact);
      num = r.num;
    }

    go : (x y : Float) → HasValue x s A px → HasValue y t B px → far false x + far true x ≤ 2 ^ 248 → far false y + far true y ≤ 2 ^ 248 → Sum x y (add binary32 x y)
    go nan y v w h k = absurd v
    go (inf i) y v w h k = absurd v
    go (fin i m e) nan v w h k = absurd w
    go (fin i m e) (inf j) v w h k = absurd w
    go (fin i m e) (fin j n d) v w h k =
        finish (fin i m e) (fin j n d) (sum binary32 i (m * up e * down d) j (n * up d * down e) (down e * down d)) v w
        (subst (λ (i' : Bool). Total s A t B (sum binary32 i' (m * up e * down d) j (n * up d * down e) (down e * down d))) (sym v.0)
        (subst (λ (j' : Bool). Total s A t B (sum binary32 s (m * up e * down d) j' (n * up d * down e) (down e * down d))) (sym w.0)
        (total s (m * up e * down d) t (n * up d * down e) (down e * down d) A B (mul-pos (down_pos e) (down_pos d))
        (left_of (m * up e) (down e) (down d) px A v.1) (right_of (n * up d) (down e) (down d) px B w.1)
        (twice A B (under (fin i m e) s A v h) (under (fin j n d) t B w k)))))

-- ---- how far a sum is moved

close : (E m M : ℕ) → E ≤ 16777216 * M → (16777216 * m ≤ 16777216 * E + E) × (16777216 * E ≤ 16777216 * m + E) → (m ≤ E + M) × (E ≤ m + M)
close E m M h l = omega arith

fl_close : (E M : ℕ) → E ≤ 16777216 * M → (fl E ≤ E + M) × (E ≤ fl E + M)
fl_close E M h = close E (fl E) M h ((fl_near E).0, (fl_near E).1)

module _ {x y z : Float} (r : Sum x y z) where
  -- by at most M, where it is at most 2 ^ 24 times that
  pub sum_near : (M : ℕ) → ((g : Bool) → far g x + far g y ≤ 16777216 * M) → (g : Bool) → far g z + far (not g) x + far (not g) y ≤ far (not g) z + far g x + far g y + M
  sum_near M h g = go r.toward g r.exact r.sum_is r.here r.there
    where
      toward : (zt zu xt yt xu yu E m : ℕ) → xt + yt ≡ xu + yu + E → zt ≡ m → zu ≡ 0 → m ≤ E + M → zt + xu + yu ≤ zu + xt + yt + M
      toward zt zu xt yt xu yu E m a b c d = omega arith

      away : (zt zu xt yt xu yu E m : ℕ) → xt + yt ≡ xu + yu + E → zt ≡ m → zu ≡ 0 → E ≤ m + M → zu + xt + yt ≤ zt + xu + yu + M
      away zt zu xt yt xu yu E m a b c d = omega arith

      bound : (t : Bool) (E : ℕ) → far t x + far t y ≡ far (not t) x + far (not t) y + E → (fl E ≤ E + M) × (E ≤ fl E + M)
      bound t E e = fl_close E M (le_trans {m = far t x + far t y} (omega arith) (h t))

      go : (t g : Bool) (E : ℕ) → far t x + far t y ≡ far (not t) x + far (not t) y + E → far t z ≡ fl E → far (not t) z ≡ 0 → far g z + far (not g) x + far (not g) y ≤ far (not g) z + far g x + far g y + M
      go true true E e a b = toward (far true z) (far false z) (far true x) (far true y) (far false x) (far false y) E (fl E) e a b (bound true E e).0
      go false false E e a b = toward (far false z) (far true z) (far false x) (far false y) (far true x) (far true y) E (fl E) e a b (bound false E e).0
      go true false E e a b = away (far true z) (far false z) (far true x) (far true y) (far false x) (far false y) E (fl E) e a b (bound true E e).1
      go false true E e a b = away (far false z) (far true z) (far false x) (far false y) (far true x) (far true y) E (fl E) e a b (bound false E e).1

  -- on either side it is at most the sum of that side, but for M
  pub sum-under : (M : ℕ) → ((g : Bool) → far g x + far g y ≤ 16777216 * M) → (g : Bool) → far g z ≤ far g x + far g y + M
  sum-under M h g = go (one_side r.num g) (sum_near M h g)
    where
      go : (far g z ≡ 0) ⊎ (far (not g) z ≡ 0) → far g z + far (not g) x + far (not g) y ≤ far (not g) z + far g x + far g y + M → far g z ≤ far g x + far g y + M
      go (inl e) k = omega arith
      go (inr e) k = omega arith

  -- it is on the side of the larger
  pub sum_side : (g : Bool) → 0 < far g z → far (not g) x + far (not g) y < far g x + far g y
  sum_side g h = go r.toward g r.exact r.sum_is r.here r.there h
    where
      more : (E m a b : ℕ) → 0 < m → 16777216 * m ≤ 16777216 * E + E → a ≡ b + E → b < a
      more E m a b h l e = omega arith

      no : (n : ℕ) → n ≡ 0 → 0 < n → ⊥
      no n e h = omega arith

      go : (t g : Bool) (E : ℕ) → far t x + far t y ≡ far (not t) x + far (not t) y + E → far t z ≡ fl E → far (not t) z ≡ 0 → 0 < far g z → far (not g) x + far (not g) y < far g x + far g y
      go true true E e a b l = more E (fl E) (far true x + far true y) (far false x + far false y) (subst (λ (n : ℕ). 0 < n) a l) (fl_near E).0 e
      go false false E e a b l = more E (fl E) (far false x + far false y) (far true x + far true y) (subst (λ (n : ℕ). 0 < n) a l) (fl_near E).0 e
      go true false E e a b l = absurd (no (far false z) b l)
      go false true E e a b l = absurd (no (far true z) b l)

  -- of numbers above 0
  pub sum_above : far true x ≡ 0 → far true y ≡ 0 → (far false z ≡ fl (far false x + far false y)) × (far true z ≡ 0)
  sum_above p q = go r.toward r.exact r.sum_is r.here r.there
    where
      exactly : (a b c d E : ℕ) → c ≡ 0 → d ≡ 0 → a + b ≡ c + d + E → E ≡ a + b
      exactly a b c d E p q e = omega arith

      none : (a b c d E : ℕ) → c ≡ 0 → d ≡ 0 → c + d ≡ a + b + E → (a + b ≡ 0) × (E ≡ 0)
      none a b c d E p q e = omega arith

      go : (t : Bool) (E : ℕ) → far t x + far t y ≡ far (not t) x + far (not t) y + E → far t z ≡ fl E → far (not t) z ≡ 0 → (far false z ≡ fl (far false x + far false y)) × (far true z ≡ 0)
      go false E e a b = (a ∙ ap fl (exactly (far false x) (far false y) (far true x) (far true y) E p q e), b)
      go true E e a b =
          let n = none (far false x) (far false y) (far true x) (far true y) E p q e in
          (b ∙ sym (ap fl n.0 ∙ fl_zero), a ∙ ap fl n.1 ∙ fl_zero)

  -- x and something toward g: no less than x, seen toward g
  pub sum_keeps : Num x → (g : Bool) → far (not g) y ≡ 0 → far g x + far (not g) z ≤ far g z + far (not g) x
  sum_keeps p g h = go r.toward g r.exact r.sum_is r.here r.there h (one_side p g) (held_num p g).stays (held_num p (not g)).stays
    where
      -- the exact sum is toward g
      up_to : (zt zu xt xu yt yu E : ℕ) → xt + yt ≡ xu + yu + E → zt ≡ fl E → zu ≡ 0 → yu ≡ 0 → (xt ≡ 0) ⊎ (xu ≡ 0) → fl xt ≡ xt → xt + zu ≤ zt + xu
      up_to zt zu xt xu yt yu E e a b h (inl n) k = omega arith
      up_to zt zu xt xu yt yu E e a b h (inr n) k =
          let m : fl xt ≤ fl E = fl_mono xt E (omega arith) in
          omega arith

      -- it is on the other side
      down_to : (zt zu xt xu yt yu E : ℕ) → xu + yu ≡ xt + yt + E → zu ≡ fl E → zt ≡ 0 → yu ≡ 0 → (xt ≡ 0) ⊎ (xu ≡ 0) → fl xu ≡ xu → xt + zu ≤ zt + xu
      down_to zt zu xt xu yt yu E e a b h (inl n) k =
          let m : fl E ≤ fl xu = fl_mono E xu (omega arith) in
          omega arith
      down_to zt zu xt xu yt yu E e a b h (inr n) k =
          let m : fl E ≤ fl xu = fl_mono E xu (omega arith) in
          omega arith

      go : (t g : Bool) (E : ℕ) → far t x + far t y ≡ far (not t) x + far (not t) y + E → far t z ≡ fl E → far (not t) z ≡ 0 → far (not g) y ≡ 0
          → (far g x ≡ 0) ⊎ (far (not g) x ≡ 0) → fl (far g x) ≡ far g x → fl (far (not g) x) ≡ far (not g) x → far g x + far (not g) z ≤ far g z + far (not g) x
      go true true E e a b h o k l = up_to (far true z) (far false z) (far true x) (far false x) (far true y) (far false y) E e a b h o k
      go false false E e a b h o k l = up_to (far false z) (far true z) (far false x) (far true x) (far false y) (far true y) E e a b h o k
      go true false E e a b h o k l = down_to (far false z) (far true z) (far false x) (far true x) (far false y) (far true y) E e a b h o l
      go false true E e a b h o k l = down_to (far true z) (far false z) (far true x) (far false x) (far true y) (far false y) E e a b h o l
