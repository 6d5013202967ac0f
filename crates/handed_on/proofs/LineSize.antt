-- The call for a line's cross size: where it accepts, none of the checks refuses the size that it hands on. Sizes are picked, and an item's is
-- added once to its margins. Assumes nothing.
use mathlib.Core.Path.{◌≡◌, refl, sym, subst}
use mathlib.Core.Logic.{◌⊎◌, inl, inr}
use mathlib.Core.Bool.{Bool, true, false, not, cond}
use mathlib.Core.List.{[], ◌∷◌, ◌++◌}
use Prim.Native.Nat.{ℕ, zero, suc, ◌+◌, ◌*◌, ◌^◌, ◌≤◌, ◌<◌, zero-le}
use native.Mathlib.Nat.{le_trans, le_of_eq, add-le-add, add-mul, one-mul, mul-le-mul_right}
use native.Mathlib.Omega.{arith}
use lib.Dec.{T, eqb, lit≤}
use lib.ListN.{get_or}
use lib.Ieee.{Float, nan, lt, le, eq, of_bits}
use Rattle.grid.specs.Grid.{on_grid, within, cleaned}
use Rattle.grid.specs.Floats.{◌⊕◌, nought}
use Rattle.std.specs.declared.option.Option.TheVariants.{None, Some}
use Rattle.std.specs.declared.result.Result.TheVariants.{Ok, Err}
use Rattle.keywords.specs.Space.{Bound, bound_of, raised_to, lowered_to, read_bound}
use Rattle.keywords.specs.Wrapping.{is_single_line}
use Rattle.checks.specs.Domain.{Verdict, float, code, checked}
use Rattle.checks.specs.Lists.{beside_at}
use Rattle.checks.specs.Optional.{optional}
use Rattle.checks.specs.Shapes.{shape_of}
use Rattle.checks.specs.Marks.{Fine, AllFine, SoundInput}
use Rattle.checks.specs.declared.Kind.TheVariants as kind
use Rattle.checks.proofs.Checks.{accepted, then_passed, fine-append, fine_code}
use Rattle.place_size.specs.declared.container.Cross.{Cross}
use Rattle.place_size.specs.declared.cross_size.CrossItem.{CrossItem}
use Rattle.place_size.specs.Container.{read_cross, bounded, bounded_by, inner_size, or_bounded}
use Rattle.place_size.specs.CrossSize.{cross_clamp, or_nought, margins, outer_size, CrossLists, count, cross_item_at, largest, line_cross_size, cross_line_size}
use Rattle.place_checks.specs.declared.numbers.CrossNumbers.{CrossNumbers}
use Rattle.place_checks.specs.Numbers.{cross_of, coded_bound, item_lengths}
use Rattle.place_size_call.specs.SizeCall.{SizeAnswer, size_input, size_verdict, size_into, size_call}
use Rattle.flex_reach.specs.Reach.{IsSize, IsMargin}
use Rattle.flex_reach.proofs.Units.{px, Num, far, one_side, lt_num}
use Rattle.flex_reach.proofs.Plus.{sum_num, sum-under}
use Rattle.flex_reach.proofs.Clamp.{Upto}
use Rattle.flex_reach.proofs.Limits.{factors_big}
use Rattle.flex_reach.proofs.Domain.{within_far, size_upto, margin_grid, handed_on}
use Rattle.flex_reach.proofs.Line.{size_read, margin_given, handed_fine}

-- ---- numbers

pick : (P : Float → Type 0) (b : Bool) {x y : Float} → P x → P y → P (cond b y x)
pick P true p q = q
pick P false p q = p

-- at most n px, above 0 and below it
record Near (n : ℕ) (x : Float) : Type 0 where
  num : Num x
  most : (g : Bool) → far g x ≤ n * px

upto_near : {n : ℕ} {x : Float} → Upto (n * px) x → Near n x
upto_near {n} {x} u = record { num = u.num; most = go }
  where
    go : (g : Bool) → far g x ≤ n * px
    go true = le_trans (le_of_eq u.above) zero-le
    go false = u.most

more : {m n : ℕ} {x : Float} → m ≤ n → Upto m x → Upto n x
more l u = record { num = u.num; above = u.above; most = le_trans u.most l }

margin_near : {x : Float} → IsMargin x → Near 131072 x
margin_near m = let n = (margin_grid m).num in record { num = n; most = within_far n 131072 m.small }

-- a sum: what both are, and 1 px for the rounding
sum_near : (a b : ℕ) {x y : Float} → a ≤ 524288 → b ≤ 524288 → Near a x → Near b y → Near (a + b + 1) (x ⊕ y)
sum_near a b {x} {y} h k p q =
    let s = sum_num p.num q.num (big a h p) (big b k q) in
    record {
      num = s.num;
      most = λ g. le_trans (sum-under s px (λ t. le_trans (both t) (mul-le-mul_right px (let l : a + b ≤ 16777216 = omega arith in l))) g) (last (far g x + far g y) (both g));
    }
  where
    twice : (c d e : ℕ) → c ≤ e → d ≤ e → e ≤ 524288 * px → c + d ≤ 33554432 * px
    twice c d e h k l = omega arith

    big : (c : ℕ) {z : Float} → c ≤ 524288 → Near c z → far false z + far true z ≤ 2 ^ 248
    big c {z} l r = le_trans (twice (far false z) (far true z) (c * px) (r.most false) (r.most true) (mul-le-mul_right px l)) factors_big

    both : (g : Bool) → far g x + far g y ≤ (a + b) * px
    both g = le_trans (add-le-add (p.most g) (q.most g)) (le_of_eq (sym (add-mul a b px)))

    last : (e : ℕ) → e ≤ (a + b) * px → e + px ≤ (a + b + 1) * px
    last e l = le_trans (add-le-add l (le_of_eq (sym (one-mul px)))) (le_of_eq (sym (add-mul (a + b) 1 px)))

-- ---- an item

-- what the checks show of an item, as it is read
record IsCross (it : CrossItem) : Type 0 where
  measured : IsSize it.measured
  minimum : IsSize it.minimum
  maximum : T it.capped → IsSize it.maximum
  edges : IsSize it.edges
  start : IsMargin (or_nought it.auto_start it.start)
  end : IsMargin (or_nought it.auto_end it.end)

clamp_upto : {it : CrossItem} {x : Float} → IsCross it → Upto (262144 * px) x → Upto (262144 * px) (cross_clamp it x)
unfolding cross_clamp
clamp_upto {it} {x} i u = pick (Upto (262144 * px)) (lt _ it.edges) (pick (Upto (262144 * px)) (lt _ it.minimum) (go it.capped i.maximum) (size_upto i.minimum)) (size_upto i.edges)
  where
    go : (b : Bool) → (T b → IsSize it.maximum) → Upto (262144 * px) (cond b (cond (lt it.maximum x) it.maximum x) x)
    go true m = pick (Upto (262144 * px)) (lt it.maximum x) u (size_upto (m tt))
    go false m = u

outer_near : {it : CrossItem} → IsCross it → Near 524290 (outer_size it)
unfolding outer_size margins
outer_near i = sum_near 262144 262145 (lit≤ tt) (lit≤ tt) (upto_near (clamp_upto i (size_upto i.measured))) (sum_near 131072 131072 (lit≤ tt) (lit≤ tt) (margin_near i.start) (margin_near i.end))

-- "the largest .. and zero"
zero_is : IsSize nought
unfolding on_grid within le lt eq of_bits
zero_is = record { grid = tt; small = tt; above = tt }

raised_upto : {n : ℕ} {x y : Float} → Upto (n * px) x → Near n y → Upto (n * px) (cond (lt x y) y x)
raised_upto {n} {x} {y} p q = go (lt x y) (lt_num p.num q.num).0 (one_side q.num true)
  where
    less : far false x + far true y < far false y + far true x → far true x ≡ 0 → far false y ≡ 0 → ⊥
    less a b c = omega arith

    go : (b : Bool) → (T b → far false x + far true y < far false y + far true x) → (far true y ≡ 0) ⊎ (far false y ≡ 0) → Upto (n * px) (cond b y x)
    go true l (inl e) = record { num = q.num; above = e; most = q.most false }
    go true l (inr e) = absurd (less (l tt) p.above e)
    go false l e = p

largest_upto : (f : ℕ → Float) (n : ℕ) → ((i : ℕ) → i < n → Near 524290 (f i)) → Upto (524290 * px) (largest f n)
unfolding largest
largest_upto f zero h = more (mul-le-mul_right px (lit≤ tt)) (size_upto zero_is)
largest_upto f (suc n) h = raised_upto (largest_upto f n (λ i l. h i (omega arith))) (h n (omega arith))

-- ---- the container

abbrev BoundIs : Bound → Type 0
BoundIs None = Unit {0}
BoundIs (Some x) = IsSize x

record IsCrossAxis (c : Cross) : Type 0 where
  inner : BoundIs c.inner
  minimum : BoundIs c.minimum
  maximum : BoundIs c.maximum

size_more : {x : Float} → IsSize x → Upto (524290 * px) x
size_more s = more (mul-le-mul_right px (lit≤ tt)) (size_upto s)

bounded_upto : {c : Cross} {x : Float} → IsCrossAxis c → Upto (524290 * px) x → Upto (524290 * px) (bounded c x)
unfolding bounded
bounded_upto {c} {x} k u = above c.minimum k.minimum (below c.maximum k.maximum)
  where
    below : (b : Bound) → BoundIs b → Upto (524290 * px) (lowered_to b x)
    below None s = u
    below (Some y) s = pick (Upto (524290 * px)) (lt y x) u (size_more s)

    above : (b : Bound) → BoundIs b → {z : Float} → Upto (524290 * px) z → Upto (524290 * px) (raised_to b z)
    above None s v = v
    above (Some y) s {z} v = pick (Upto (524290 * px)) (lt z y) v (size_more s)

line_upto : {c : Cross} {x : Float} → IsCrossAxis c → Upto (524290 * px) x → Upto (524290 * px) (cond (is_single_line c.wrap) (or_bounded c (inner_size c) x) x)
line_upto {c} {x} k u = pick (Upto (524290 * px)) (is_single_line c.wrap) u (inner c.inner k.inner)
  where
    inner : (b : Bound) → BoundIs b → Upto (524290 * px) (or_bounded c (bounded_by c b) x)
    inner None s = bounded_upto k u
    inner (Some y) s = bounded_upto k (size_more s)

-- ---- what the checks show

bound_read : (given : ℕ) (x : Float) → AllFine (coded_bound given x) → BoundIs (read_bound (bound_of given x))
bound_read given x h = go (eqb given 1) h.1
  where
    go : (b : Bool) → AllFine (optional b (float kind.Size x)) → BoundIs (read_bound (cond b (Some x) None))
    go true f = size_read f.0
    go false f = tt

maximum_read : (c : ℕ) (x : Float) → AllFine (code 1 c ∷ optional (eqb c 1) (float kind.Size x)) → T (not (eqb c 0)) → IsSize (cleaned x)
maximum_read zero x h t = absurd t
maximum_read (suc zero) x h t = size_read h.1.0
maximum_read (suc (suc k)) x h t = absurd (two k (fine_code h.0))
  where
    two : (k : ℕ) → suc (suc k) ≤ 1 → ⊥
    two k l = omega arith

margin-read : (c : ℕ) (x : Float) → AllFine (code 1 c ∷ optional (eqb c 0) (float kind.Margin x)) → IsMargin (or_nought (not (eqb c 0)) (cleaned x))
margin-read c x h = go (eqb c 0) (margin_given c x h)
  where
    go : (b : Bool) → IsMargin (cond b (cleaned x) nought) → IsMargin (cond (not b) nought (cleaned x))
    go true m = m
    go false m = m

module _ (c : CrossNumbers) (ls : CrossLists) where
  item_is : SoundInput (size_input c ls) → (i : ℕ) → i < count ls → IsCross (cross_item_at ls i)
  item_is s i h =
      let M = beside_at kind.Size 1 ls.maximum ls.capped i in
      let S = beside_at kind.Margin 0 ls.start ls.auto_start i in
      let E = beside_at kind.Margin 0 ls.end ls.auto_end i in
      let a = s.items i h in
      let b = fine-append M (S ++ E) a.1.1.1 in
      let d = fine-append S E b.1 in
      record {
        measured = size_read a.0;
        minimum = size_read a.1.0;
        maximum = maximum_read (get_or ls.capped i 0) (get_or ls.maximum i nan) b.0;
        edges = size_read a.1.1.0;
        start = margin-read (get_or ls.auto_start i 0) (get_or ls.start i nan) d.0;
        end = margin-read (get_or ls.auto_end i 0) (get_or ls.end i nan) d.1;
      }

  axis_is : SoundInput (size_input c ls) → IsCrossAxis (read_cross (cross_of c))
  unfolding read_cross cross_of
  axis_is s =
      let a = fine-append (coded_bound c.has_inner c.inner) _ s.container in
      let b = fine-append (coded_bound c.has_minimum c.minimum) _ a.1 in
      let d = fine-append (coded_bound c.has_maximum c.maximum) _ b.1 in
      record { inner = bound_read c.has_inner c.inner a.0; minimum = bound_read c.has_minimum c.minimum b.0; maximum = bound_read c.has_maximum c.maximum d.0 }

  size_taken : size_verdict c ls ≡ Ok tt → Fine (float kind.Worked (cross_line_size (cross_of c) ls))
  unfolding size_verdict line_cross_size
  size_taken e =
      let p = then_passed (shape_of (item_lengths ls) [] (count ls)) (checked (size_input c ls) (Ok tt)) e in
      let s = (accepted (size_input c ls) (Ok tt) p.1).0 in
      handed_fine (handed_on (more (mul-le-mul_right px (lit≤ tt)) (line_upto (axis_is s) (largest_upto (λ i. outer_size (cross_item_at ls i)) (count ls) (λ i h. outer_near (item_is s i h))))))

  -- the size that an accepted call answers is a number that a later step takes
  pub size_reach : (x : Float) → size_call c ls ≡ Ok x → Fine (float kind.Worked x)
  size_reach x = go (size_verdict c ls) refl
    where
      sized : SizeAnswer → Type 0
      sized (Ok y) = Fine (float kind.Worked y)
      sized (Err why) = Unit {0}

      is_sized : SizeAnswer → Type 0
      is_sized (Ok y) = Unit {0}
      is_sized (Err why) = ⊥

      go : (v : Verdict) → size_verdict c ls ≡ v → size_into v c ls ≡ Ok x → Fine (float kind.Worked x)
      go (Ok tt) e h = subst sized h (size_taken e)
      go (Err why) e h = absurd (subst is_sized (sym h) tt)
