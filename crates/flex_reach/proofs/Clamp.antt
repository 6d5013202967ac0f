-- The clamp of an item in units: the least of the size and the maximum, then the largest of that, the minimum and the edges. So it keeps the
-- order, a size that it raises becomes the least that it gives, and a size that it lowers becomes the largest. Assumes nothing.
use mathlib.Core.Path.{◌≡◌, refl, sym, ap, ◌∙◌, subst}
use mathlib.Core.Logic.{◌⊎◌, inl, inr}
use mathlib.Core.Bool.{Bool, true, false, not, cond}
use Prim.Native.Nat.{ℕ, ◌+◌, ◌*◌, ◌^◌, ◌≤◌, ◌<◌, min, max}
use native.Mathlib.Nat.{le_trans, le_of_eq}
use native.Mathlib.Omega.{arith}
use lib.Dec.{T}
use lib.Ieee.{Float, nan, inf, fin, lt}
use Rattle.flex.specs.declared.Item.{Item}
use Rattle.grid.specs.Floats.{raised, lowered}
use Rattle.flex.specs.Flex.{clamp}
use Rattle.flex_reach.proofs.Units.{px, Num, far, one_side, lt_num}

-- ---- one bound

-- a number not below 0 and at most n units
pub record Upto (n : ℕ) (x : Float) : Type 0 where
  pub num : Num x
  pub above : far true x ≡ 0
  pub most : far false x ≤ n

pub raised_num : {x y : Float} → Num x → Num y → far true y ≡ 0 → Num (raised x y) × (far true (raised x y) ≡ 0) × (far false (raised x y) ≡ max (far false x) (far false y))
raised_num {x} {y} p q h = go (lt x y) (lt_num p q).0 (lt_num p q).1 (one_side p true)
  where
    go : (b : Bool) → (T b → far false x + far true y < far false y + far true x) → (T (not b) → far false y + far true x ≤ far false x + far true y) → (far true x ≡ 0) ⊎ (far false x ≡ 0)
        → Num (cond b y x) × (far true (cond b y x) ≡ 0) × (far false (cond b y x) ≡ max (far false x) (far false y))
    go true l m (inl e) = let k = l tt in (q, h, omega arith)
    go true l m (inr e) = (q, h, omega arith)
    go false l m (inl e) = let k = m tt in (p, e, omega arith)
    go false l m (inr e) = let k = m tt in (p, omega arith, omega arith)

pub lowered_num : {x y : Float} → Num x → Num y → far true y ≡ 0 → Num (lowered x y) × (far false (lowered x y) ≡ min (far false x) (far false y))
lowered_num {x} {y} p q h = go (lt y x) (lt_num q p).0 (lt_num q p).1 (one_side p true)
  where
    go : (b : Bool) → (T b → far false y + far true x < far false x + far true y) → (T (not b) → far false x + far true y ≤ far false y + far true x) → (far true x ≡ 0) ⊎ (far false x ≡ 0)
        → Num (cond b y x) × (far false (cond b y x) ≡ min (far false x) (far false y))
    go true l m (inl e) = let k = l tt in (q, omega arith)
    go true l m (inr e) = let k = l tt in (q, omega arith)
    go false l m (inl e) = let k = m tt in (p, omega arith)
    go false l m (inr e) = (p, omega arith)

-- ---- an item

-- what an item's sizes are: at most 262,144 px, but for an infinite maximum
pub record Sizes (it : Item) : Type 0 where
  pub base : Upto (262144 * px) it.base
  pub minimum : Upto (262144 * px) it.minimum
  pub maximum : (it.maximum ≡ inf false) ⊎ Upto (262144 * px) it.maximum
  pub edges : Upto (262144 * px) it.edges

-- the maximum: beyond every size that comes up, where it is infinite
unfoldable pub cap : Float → ℕ
cap nan = 0
cap (inf s) = 1152921504606846976 * px
cap (fin s m e) = far false (fin s m e)

-- `clamp` of a units
unfoldable pub bounded : Item → ℕ → ℕ
bounded it a = max (max (min a (cap it.maximum)) (far false it.minimum)) (far false it.edges)

cap_num : {x : Float} → Num x → cap x ≡ far false x
unfolding cap
cap_num {x} p = go x p.value
  where
    go : (x : Float) → lib.Ieee.Exact.HasValue x p.sign (p.digits * 2 ^ p.shift) px → cap x ≡ far false x
    go nan v = absurd v
    go (inf s) v = absurd v
    go (fin s m e) v = refl

not_above : {x : Float} → Num x → lt (inf false) x ≡ false
unfolding lt
not_above {x} p = go x p.value
  where
    go : (x : Float) → lib.Ieee.Exact.HasValue x p.sign (p.digits * 2 ^ p.shift) px → lt (inf false) x ≡ false
    go nan v = absurd v
    go (inf s) v = absurd v
    go (fin s m e) v = refl

lowered-max : {x y : Float} → Num x → far false x ≤ 1152921504606846976 * px → (y ≡ inf false) ⊎ Upto (262144 * px) y → Num (lowered x y) × (far false (lowered x y) ≡ min (far false x) (cap y))
unfolding cap
lowered-max {x} {y} p h (inl e) =
    subst (λ (z : Float). Num (lowered x z) × (far false (lowered x z) ≡ min (far false x) (cap z))) (sym e)
    (subst (λ (b : Bool). Num (cond b (inf false) x) × (far false (cond b (inf false) x) ≡ min (far false x) (1152921504606846976 * px))) (sym (not_above p))
    (p, omega arith))
lowered-max {x} {y} p h (inr u) = let r = lowered_num p u.num u.above in (r.0, r.1 ∙ ap (λ (n : ℕ). min (far false x) n) (sym (cap_num u.num)))

pub clamp_num : {it : Item} {x : Float} → Sizes it → Num x → far false x ≤ 1152921504606846976 * px → Num (clamp it x) × (far true (clamp it x) ≡ 0) × (far false (clamp it x) ≡ bounded it (far false x))
unfolding clamp bounded
clamp_num {it} {x} s p h =
    let a = lowered-max p h s.maximum in
    let b = raised_num a.0 s.minimum.num s.minimum.above in
    let c = raised_num b.0 s.edges.num s.edges.above in
    (c.0, c.1, c.2 ∙ ap (λ (n : ℕ). max n (far false it.edges)) (b.2 ∙ ap (λ (n : ℕ). max n (far false it.minimum)) a.1))

-- ---- laws of the clamp

bounded_mono' : (C m e a b : ℕ) → a ≤ b → max (max (min a C) m) e ≤ max (max (min b C) m) e
bounded_mono' C m e a b h = omega arith

pub bounded_mono : (it : Item) (a b : ℕ) → a ≤ b → bounded it a ≤ bounded it b
unfolding bounded
bounded_mono it a b h = bounded_mono' (cap it.maximum) (far false it.minimum) (far false it.edges) a b h

floor' : (C m e a b : ℕ) → a < max (max (min a C) m) e → max (max (min a C) m) e ≤ max (max (min b C) m) e
floor' C m e a b h = omega arith

-- a size that is raised becomes the least
pub floor : (it : Item) (a b : ℕ) → a < bounded it a → bounded it a ≤ bounded it b
unfolding bounded
floor it a b h = floor' (cap it.maximum) (far false it.minimum) (far false it.edges) a b h

ceiling' : (C m e a b : ℕ) → max (max (min a C) m) e < a → max (max (min b C) m) e ≤ max (max (min a C) m) e
ceiling' C m e a b h = omega arith

-- a size that is lowered becomes the largest
pub ceiling : (it : Item) (a b : ℕ) → bounded it a < a → bounded it b ≤ bounded it a
unfolding bounded
ceiling it a b h = ceiling' (cap it.maximum) (far false it.minimum) (far false it.edges) a b h

raised_small' : (C m e a K : ℕ) → m ≤ K → e ≤ K → a < max (max (min a C) m) e → max (max (min a C) m) e ≤ K
raised_small' C m e a K p q h = omega arith

under' : (C m e a K : ℕ) → m ≤ K → e ≤ K → max (max (min a C) m) e ≤ a + K
under' C m e a K p q = omega arith

small' : (C m e a K : ℕ) → m ≤ K → e ≤ K → a ≤ K → max (max (min a C) m) e ≤ K
small' C m e a K p q h = omega arith

lowered_small' : (C m e a K : ℕ) → m ≤ K → e ≤ K → (a ≤ C) ⊎ (C ≤ K) → max (max (min a C) m) e < a → max (max (min a C) m) e ≤ K
lowered_small' C m e a K p q (inl l) h = omega arith
lowered_small' C m e a K p q (inr l) h = omega arith

module _ {it : Item} (s : Sizes it) (a : ℕ) where
  pub raised_small : a < bounded it a → bounded it a ≤ 262144 * px
  unfolding bounded
  raised_small h = raised_small' (cap it.maximum) (far false it.minimum) (far false it.edges) a (262144 * px) s.minimum.most s.edges.most h

  pub bounded-under : bounded it a ≤ a + 262144 * px
  unfolding bounded
  bounded-under = under' (cap it.maximum) (far false it.minimum) (far false it.edges) a (262144 * px) s.minimum.most s.edges.most

  pub bounded_small : a ≤ 262144 * px → bounded it a ≤ 262144 * px
  unfolding bounded
  bounded_small h = small' (cap it.maximum) (far false it.minimum) (far false it.edges) a (262144 * px) s.minimum.most s.edges.most h

  pub lowered_small : a ≤ 1152921504606846976 * px → bounded it a < a → bounded it a ≤ 262144 * px
  unfolding bounded cap
  lowered_small l h = lowered_small' (cap it.maximum) (far false it.minimum) (far false it.edges) a (262144 * px) s.minimum.most s.edges.most (which s.maximum) h
    where
      which : (it.maximum ≡ inf false) ⊎ Upto (262144 * px) it.maximum → (a ≤ cap it.maximum) ⊎ (cap it.maximum ≤ 262144 * px)
      which (inl e) = inl (subst (λ (z : Float). a ≤ cap z) (sym e) l)
      which (inr u) = inr (le_trans (le_of_eq (cap_num u.num)) u.most)
