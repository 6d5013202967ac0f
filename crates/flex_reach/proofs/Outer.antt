-- An accepted line in units and in whole sixty-fourths: hypothetical outer sizes and their sum, the gaps, and the free space before flexing, each near what
-- the floats give. Assumes nothing.
use mathlib.Core.Path.{◌≡◌, refl, sym, ap, ◌∙◌, subst}
use mathlib.Core.Logic.{◌⊎◌, inl, inr}
use mathlib.Core.Bool.{Bool, true, false, not, cond}
use mathlib.Core.List.{List, [], ◌∷◌}
use Prim.Native.Nat.{ℕ, zero, suc, ◌+◌, ◌-◌, ◌*◌, ◌^◌, ◌≤◌, ◌<◌, zero-le}
use native.Mathlib.Nat.{le_trans, le_of_eq, mul-le-mul_right, le_of_mul-le-mul_right}
use native.Mathlib.Omega.{arith}
use lib.Dec.{T, ltb, ltb→lt, nltb→le, lit≤}
use lib.ListN.{length}
use lib.IntN.{ℤ, pos, negsuc, neg_ℤ, nat_abs, ◌+ℤ◌, ◌*ℤ◌, sub_ℕ}
use lib.Signed.{lt_z}
use lib.Ieee.{Float, nan, inf, fin, binary32, lt, of_int}
use Rattle.grid.specs.Grid.{sixty_fourths}
use Rattle.flex.specs.declared.Item.{Item}
use Rattle.grid.specs.Floats.{raised, lowered, gaps, ◌⊗◌}
use Rattle.flex.specs.Flex.{clamp, hypothetical, outer_units, sum_units, free_before, outer_sum}
use Rattle.flex_reach.specs.Reach.{IsSize, IsItem, Each}
use Rattle.flex.proofs.Signs.{All}
use Rattle.flex_reach.proofs.Units.{px, px_pos, Num, far}
use Rattle.flex_reach.proofs.Times.{product, product_near, product_close, mul_num, whole_num, nought_num}
use Rattle.flex_reach.proofs.Clamp.{Upto, bounded, clamp_num}
use Rattle.flex_reach.proofs.Totals.{count}
use Rattle.flex_reach.proofs.Turn.{far_off, whole_of}
use Rattle.flex_reach.proofs.Space.{margin, margin_lies}
use Rattle.flex_reach.proofs.Domain.{unit, unit_px, plus, minus, Gridded, size_grid, size_upto, margin_grid, fine}

-- ---- integers, above 0 and below it

sub_sides : (a b : ℕ) → plus (sub_ℕ a b) + b ≡ minus (sub_ℕ a b) + a
sub_sides a b = go (ltb a b) (ltb→lt a b) (nltb→le a b)
  where
    go : (t : Bool) → (T t → a < b) → (T (not t) → b ≤ a) → plus (cond t (negsuc (b - suc a)) (pos (a - b))) + b ≡ minus (cond t (negsuc (b - suc a)) (pos (a - b))) + a
    go true l m = let h = l tt in omega arith
    go false l m = let h = m tt in omega arith

pub add_sides : (x y : ℤ) → plus (x +ℤ y) + minus x + minus y ≡ minus (x +ℤ y) + plus x + plus y
add_sides (pos a) (pos b) = omega arith
add_sides (pos a) (negsuc b) = go (plus (sub_ℕ a (suc b))) (minus (sub_ℕ a (suc b))) a (suc b) (sub_sides a (suc b))
  where
    go : (p m a b : ℕ) → p + b ≡ m + a → p + 0 + b ≡ m + a + 0
    go p m a b e = omega arith
add_sides (negsuc a) (pos b) = go (plus (sub_ℕ b (suc a))) (minus (sub_ℕ b (suc a))) b (suc a) (sub_sides b (suc a))
  where
    go : (p m a b : ℕ) → p + b ≡ m + a → p + b + 0 ≡ m + 0 + a
    go p m a b e = omega arith
add_sides (negsuc a) (negsuc b) = omega arith

neg_sides : (x : ℤ) → (plus (neg_ℤ x) ≡ minus x) × (minus (neg_ℤ x) ≡ plus x)
neg_sides (pos zero) = (refl, refl)
neg_sides (pos (suc n)) = (refl, refl)
neg_sides (negsuc n) = (refl, refl)

abs_sides : (x : ℤ) → nat_abs x ≡ plus x + minus x
abs_sides (pos n) = omega arith
abs_sides (negsuc n) = omega arith

-- an integer not below 0, times a natural number
times_sides : (x : ℤ) (k : ℕ) → minus x ≡ 0 → (plus (x *ℤ pos k) ≡ plus x * k) × (minus (x *ℤ pos k) ≡ 0)
times_sides (pos a) k e = (refl, refl)
times_sides (negsuc a) k e = absurd (native.Mathlib.Nat.suc-ne-zero a e)

pub above_zero : (x : ℤ) → T (lt_z (pos 0) x) → minus x ≡ 0
above_zero (pos n) t = refl
above_zero (negsuc n) t = absurd t

-- ---- an item's hypothetical size

grid_cond : (b : Bool) {x y : Float} → Gridded x → Gridded y → Gridded (cond b x y)
grid_cond true p q = p
grid_cond false p q = q

lowered_grid : {x y : Float} → Gridded x → (y ≡ inf false) ⊎ IsSize y → Gridded (lowered x y)
unfolding lt
lowered_grid {x} {y} p (inl e) = subst (λ (z : Float). Gridded (lowered x z)) (sym e) (go x p p.num.value)
  where
    go : (x : Float) → Gridded x → lib.Ieee.Exact.HasValue x p.num.sign (p.num.digits * 2 ^ p.num.shift) px → Gridded (cond (lt (inf false) x) (inf false) x)
    go nan q v = absurd v
    go (inf s) q v = absurd v
    go (fin s m e) q v = q
lowered_grid {x} {y} p (inr s) = grid_cond (lt y x) (size_grid s) p

pub hypothetical_grid : {it : Item} → IsItem it → Gridded (hypothetical it)
unfolding clamp
hypothetical_grid {it} i =
    let a = lowered_grid (size_grid i.base) i.maximum in
    let b = grid_cond (lt (lowered it.base it.maximum) it.minimum) (size_grid i.minimum) a in
    grid_cond (lt (raised (lowered it.base it.maximum) it.minimum) it.edges) (size_grid i.edges) b

base_small : {it : Item} → IsItem it → far false it.base ≤ 1152921504606846976 * px
base_small i = le_trans (size_upto i.base).most (mul-le-mul_right px (lit≤ tt))

pub hypothetical_far : {it : Item} → IsItem it → Num (hypothetical it) × (far true (hypothetical it) ≡ 0) × (far false (hypothetical it) ≡ bounded it (far false it.base))
hypothetical_far i = clamp_num (fine i).sizes (size_upto i.base).num (base_small i)

-- the outer size in units: the hypothetical size, and the margins
pub outer_sides : {it : Item} → IsItem it → plus (outer_units it) * unit + (far true it.start + far true it.end) ≡ minus (outer_units it) * unit + (bounded it (far false it.base) + (far false it.start + far false it.end))
outer_sides {it} i =
    let h = hypothetical_grid i in
    let v = hypothetical_far i in
    let s = margin_grid i.start in
    let e = margin_grid i.end in
    let H = sixty_fourths (hypothetical it) in
    let S = sixty_fourths it.start in
    let E = sixty_fourths it.end in
    scale (plus (H +ℤ (S +ℤ E))) (minus (H +ℤ (S +ℤ E))) (plus H) (minus H) (plus (S +ℤ E)) (minus (S +ℤ E)) (plus S) (minus S) (plus E) (minus E) unit
    (far true it.start) (far false it.start) (far true it.end) (far false it.end) (bounded it (far false it.base))
    (add_sides H (S +ℤ E)) (add_sides S E) (sym v.2 ∙ h.over) (sym v.1 ∙ h.under) s.over s.under e.over e.under
  where
    sums : (p m ph mh pq mq ps ms pe me : ℕ) → p + mh + mq ≡ m + ph + pq → pq + ms + me ≡ mq + ps + pe → p + (mh + (ms + me)) ≡ m + (ph + (ps + pe))
    sums p m ph mh pq mq ps ms pe me a b = omega arith

    scale : (p m ph mh pq mq ps ms pe me u st sf et ef b : ℕ) → p + mh + mq ≡ m + ph + pq → pq + ms + me ≡ mq + ps + pe → b ≡ ph * u → 0 ≡ mh * u → sf ≡ ps * u → st ≡ ms * u → ef ≡ pe * u → et ≡ me * u
        → p * u + (st + et) ≡ m * u + (b + (sf + ef))
    scale p m ph mh pq mq ps ms pe me u st sf et ef b e f a c d g h i =
        omega (arith, ap (λ (k : ℕ). k * u) (sums p m ph mh pq mq ps ms pe me e f))

-- ---- the sums over a line

pub each_all : (P : Item → Type 0) (l : List Item) → Each P l → All P l
each_all P [] h = tt
each_all P (it ∷ l) h = (h.0, each_all P l h.1)

-- the exact sum, the sum of the outer sizes above 0 and of those below
pub sum_sides : (l : List Item) → plus (sum_units l) + count (λ it. minus (outer_units it)) l ≡ minus (sum_units l) + count (λ it. plus (outer_units it)) l
unfolding sum_units count
sum_sides [] = refl
sum_sides (it ∷ l) = go (plus (outer_units it +ℤ sum_units l)) (minus (outer_units it +ℤ sum_units l)) (plus (outer_units it)) (minus (outer_units it)) (plus (sum_units l)) (minus (sum_units l)) (count (λ it. plus (outer_units it)) l) (count (λ it. minus (outer_units it)) l)
    (add_sides (outer_units it) (sum_units l)) (sum_sides l)
  where
    go : (p m a b c d x y : ℕ) → p + b + d ≡ m + a + c → c + y ≡ d + x → p + (b + y) ≡ m + (a + x)
    go p m a b c d x y e f = omega arith

-- the magnitudes and the gaps come to at most 16,777,216 sixty-fourths
pub sum_small : (gap : Float) (l : List Item) → count (λ it. minus (outer_units it)) l + length l * plus (sixty_fourths gap) ≤ outer_sum gap l
unfolding outer_sum count
sum_small gap [] = le_of_eq (zero-first (plus (sixty_fourths gap)))
  where
    zero-first : (n : ℕ) → 0 + 0 * n ≡ 0
    zero-first n = omega arith
sum_small gap (it ∷ l) = go (nat_abs (outer_units it)) (plus (outer_units it)) (minus (outer_units it)) (nat_abs (sixty_fourths gap)) (plus (sixty_fourths gap)) (minus (sixty_fourths gap)) (count (λ it. minus (outer_units it)) l) (length l) (outer_sum gap l)
    (abs_sides (outer_units it)) (abs_sides (sixty_fourths gap)) (sum_small gap l)
  where
    go : (a p m b q k c n o : ℕ) → a ≡ p + m → b ≡ q + k → c + n * q ≤ o → m + c + suc n * q ≤ a + b + o
    go a p m b q k c n o e f h = omega arith

-- in units: hypothetical sizes and margins
pub all_sides : (l : List Item) → All IsItem l
    → plus (sum_units l) * unit + count (λ it. far true it.start + far true it.end) l ≡ minus (sum_units l) * unit + (count (λ it. bounded it (far false it.base)) l + count (λ it. far false it.start + far false it.end) l)
unfolding sum_units count
all_sides [] h = refl
all_sides (it ∷ l) h = go (plus (outer_units it +ℤ sum_units l)) (minus (outer_units it +ℤ sum_units l)) (plus (outer_units it)) (minus (outer_units it)) (plus (sum_units l)) (minus (sum_units l)) unit
    (far true it.start + far true it.end) (far false it.start + far false it.end) (bounded it (far false it.base))
    (count (λ it. far true it.start + far true it.end) l) (count (λ it. far false it.start + far false it.end) l) (count (λ it. bounded it (far false it.base)) l)
    (add_sides (outer_units it) (sum_units l)) (outer_sides h.0) (all_sides l h.1)
  where
    go : (p m a b c d u st sf x S F X : ℕ) → p + b + d ≡ m + a + c → a * u + st ≡ b * u + (x + sf) → c * u + S ≡ d * u + (X + F) → p * u + (st + S) ≡ m * u + (x + X + (sf + F))
    go p m a b c d u st sf x S F X e f g = omega (arith, ap (λ (k : ℕ). k * u) e)

-- the margins as they are summed up, against each by itself
pub margins : (l : List Item) → All IsItem l
    → (count (λ it. far false (margin it)) l + count (λ it. far true it.start + far true it.end) l ≤ count (λ it. far true (margin it)) l + count (λ it. far false it.start + far false it.end) l + length l * px)
    × (count (λ it. far true (margin it)) l + count (λ it. far false it.start + far false it.end) l ≤ count (λ it. far false (margin it)) l + count (λ it. far true it.start + far true it.end) l + length l * px)
unfolding count
margins [] h = (zero-le, zero-le)
margins (it ∷ l) h =
    let m = margin_lies (fine h.0) in
    let r = margins l h.1 in (
      go (far false (margin it)) (far true (margin it)) (far false it.start) (far true it.start) (far false it.end) (far true it.end) (count (λ it. far false (margin it)) l) (count (λ it. far true (margin it)) l) (count (λ it. far false it.start + far false it.end) l) (count (λ it. far true it.start + far true it.end) l) (length l) px m.near_f r.0,
      go (far true (margin it)) (far false (margin it)) (far true it.start) (far false it.start) (far true it.end) (far false it.end) (count (λ it. far true (margin it)) l) (count (λ it. far false (margin it)) l) (count (λ it. far true it.start + far true it.end) l) (count (λ it. far false it.start + far false it.end) l) (length l) px m.near_t r.1,
    )
  where
    go : (m m' s s' e e' M M' S S' n p : ℕ) → m + s' + e' ≤ m' + s + e + p → M + S' ≤ M' + S + n * p → m + M + (s' + e' + S') ≤ m' + M' + (s + e + S) + suc n * p
    go m m' s s' e e' M M' S S' n p h k = omega arith

-- ---- the gaps

pub record Gaps (gap : Float) (n : ℕ) : Type 0 where
  pub upto : Upto (262145 * px) (gaps gap n)
  pub over : far false (gaps gap n) ≤ plus (sixty_fourths gap) * (n - 1) * unit + px
  pub under : plus (sixty_fourths gap) * (n - 1) * unit ≤ far false (gaps gap n) + px

pub gaps_near : (gap : Float) (n : ℕ) → IsSize gap → n ≤ 1024 → n * plus (sixty_fourths gap) ≤ 16777216 → Gaps gap n
unfolding gaps
gaps_near gap zero s l h = record {
  upto = record { num = nought_num.0; above = nought_num.1 true; most = le_trans (le_of_eq (nought_num.1 false)) zero-le };
  over = le_trans (le_of_eq (nought_num.1 false)) zero-le;
  under = le_trans (le_of_eq (none (plus (sixty_fourths gap)) unit)) zero-le;
}
  where
    none : (a u : ℕ) → a * 0 * u ≡ 0
    none a u = omega arith
gaps_near gap (suc k) s l h =
    let g = size_upto s in
    let w = whole_num k (le_trans (few k l) (lit≤ tt)) in
    let r = mul_num g.num w.0 w.2 (le_trans (le_of_eq w.1) (mul-le-mul_right px (few k l))) (le_trans (whole_of g) (far_off 262144 (lit≤ tt))) in
    let d : far false (gap ⊗ of_int binary32 (pos k)) ≡ product (far false gap) (k * px) = r.size false ∙ ap (λ (m : ℕ). product (far false gap) m) w.1 in
    let a = plus (sixty_fourths gap) in
    let e : far false gap ≡ a * unit = (size_grid s).over in
    let most : a * k * unit ≤ 262144 * px = le_trans (mul-le-mul_right unit (fewer a k h)) (le_of_eq (re unit px unit_px)) in
    let N = near (product (far false gap) (k * px)) (far false gap) a k unit px px_pos e (product_near (far false gap) (k * px)) most in
    let C = close (product (far false gap) (k * px)) (far false gap) a k unit px px_pos e (product_close (far false gap) (k * px)) most in
    record {
      upto = record { num = r.num; above = r.size true ∙ ap (λ (m : ℕ). product m (far false (of_int binary32 (pos k)))) g.above ∙ Rattle.flex_reach.proofs.Times.product_zero (far false (of_int binary32 (pos k))); most = le_trans (le_of_eq d) (le_trans N (sum (a * k * unit) px most)) };
      over = le_trans (le_of_eq d) (subst (λ (j : ℕ). product (far false gap) (k * px) ≤ a * j * unit + px) (pred k) N);
      under = subst (λ (j : ℕ). a * j * unit ≤ far false (gap ⊗ of_int binary32 (pos k)) + px) (pred k) (subst (λ (m : ℕ). a * k * unit ≤ m + px) (sym d) C);
    }
  where
    few : (k : ℕ) → suc k ≤ 1024 → k ≤ 1024
    few k h = omega arith

    pred : (k : ℕ) → k ≡ suc k - 1
    pred k = omega arith

    fewer : (a k : ℕ) → suc k * a ≤ 16777216 → a * k ≤ 16777216
    fewer a k h = omega arith

    re : (u q : ℕ) → 64 * u ≡ q → 16777216 * u ≡ 262144 * q
    re u q e = omega arith

    sum : (x p : ℕ) → x ≤ 262144 * p → x + p ≤ 262145 * p
    sum x p h = omega arith

    -- over p, and small against it
    near : (z f a k u p : ℕ) → 0 < p → f ≡ a * u → 16777216 * (z * p) ≤ 16777216 * (f * (k * p)) + (f * (k * p) + 8388608 * p) → a * k * u ≤ 262144 * p → z ≤ a * k * u + p
    near z f a k u p P e h l = last z (a * k * u) p P (le_of_mul-le-mul_right {k = p} (subst (λ (f : ℕ). 16777216 * (z * p) ≤ 16777216 * (f * (k * p)) + (f * (k * p) + 8388608 * p) → 16777216 * z * p ≤ (16777217 * (a * k * u) + 8388608) * p) (sym e) (λ q. omega arith) h) P) l
      where
        last : (z x p : ℕ) → 0 < p → 16777216 * z ≤ 16777217 * x + 8388608 → x ≤ 262144 * p → z ≤ x + p
        last z x p P h l = omega arith

    close : (z f a k u p : ℕ) → 0 < p → f ≡ a * u → 16777216 * (f * (k * p)) ≤ 16777216 * (z * p) + (f * (k * p) + 8388608 * p) → a * k * u ≤ 262144 * p → a * k * u ≤ z + p
    close z f a k u p P e h l = last z (a * k * u) p P (le_of_mul-le-mul_right {k = p} (subst (λ (f : ℕ). 16777216 * (f * (k * p)) ≤ 16777216 * (z * p) + (f * (k * p) + 8388608 * p) → 16777216 * (a * k * u) * p ≤ (16777216 * z + (a * k * u + 8388608)) * p) (sym e) (λ q. omega arith) h) P) l
      where
        last : (z x p : ℕ) → 0 < p → 16777216 * x ≤ 16777216 * z + (x + 8388608) → x ≤ 262144 * p → x ≤ z + p
        last z x p P h l = omega arith

-- ---- the free space before flexing

no_part : (m u : ℕ) → 0 < u → m * u ≡ 0 → m ≡ 0
no_part zero u h e = refl
no_part (suc m) u h e = absurd (absent m u h e)
  where
    absent : (m u : ℕ) → 0 < u → suc m * u ≡ 0 → ⊥
    absent m u h e = omega arith

pub unit_pos : 0 < unit
unit_pos = go unit px unit_px px_pos
  where
    go : (u p : ℕ) → 64 * u ≡ p → 0 < p → 0 < u
    go u p e h = omega arith

pub size_above : {x : Float} → IsSize x → minus (sixty_fourths x) ≡ 0
size_above s = no_part (minus (sixty_fourths _)) unit unit_pos (sym (size_grid s).under ∙ (size_upto s).above)

-- the free space before flexing, above 0 and below it
pub free_sides : (inner gap : Float) (l : List Item) → IsSize inner → IsSize gap
    → plus (free_before inner gap l) + (plus (sixty_fourths gap) * (length l - 1) + plus (sum_units l)) ≡ minus (free_before inner gap l) + (plus (sixty_fourths inner) + minus (sum_units l))
free_sides inner gap l s t =
    let I = sixty_fourths inner in
    let G = sixty_fourths gap *ℤ pos (length l - 1) in
    let S = sum_units l in
    let m = times_sides (sixty_fourths gap) (length l - 1) (size_above t) in
    go (plus (free_before inner gap l)) (minus (free_before inner gap l)) (plus I) (minus I) (plus (neg_ℤ (G +ℤ S))) (minus (neg_ℤ (G +ℤ S))) (plus (G +ℤ S)) (minus (G +ℤ S)) (plus G) (minus G) (plus S) (minus S) (plus (sixty_fourths gap) * (length l - 1))
    (add_sides I (neg_ℤ (G +ℤ S))) (size_above s) (neg_sides (G +ℤ S)).0 (neg_sides (G +ℤ S)).1 (add_sides G S) m.0 m.1
  where
    go : (p m i j n o x y g h s t k : ℕ) → p + j + o ≡ m + i + n → j ≡ 0 → n ≡ y → o ≡ x → x + h + t ≡ y + g + s → g ≡ k → h ≡ 0 → p + (k + s) ≡ m + (i + t)
    go p m i j n o x y g h s t k a b c d e f q = omega arith
