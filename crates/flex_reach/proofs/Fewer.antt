-- A round leaves no larger sum of the unfrozen items' factors: some go, and a rounded sum of numbers not below 0 keeps the order. Assumes nothing.
use mathlib.Core.Path.{◌≡◌, sym, ap₂, subst}
use mathlib.Core.Bool.{Bool, true, false, cond}
use mathlib.Core.List.{List, [], ◌∷◌, map}
use Prim.Native.Nat.{ℕ, ◌+◌, ◌*◌, ◌≤◌, zero-le}
use native.Mathlib.Nat.{le_refl, le_trans, le_of_eq, mul-le-mul_right}
use native.Mathlib.Omega.{arith}
use lib.Dec.{lit≤}
use lib.ListN.{length}
use lib.Ieee.{Float}
use Rattle.flex.proofs.Falls.{all_map}
use Rattle.flex.specs.declared.Share.{Share}
use Rattle.grid.specs.Floats.{nought, ◌⊕◌}
use Rattle.flex.specs.Flex.{Cell, left, sum_from, total, factor, settle}
use Rattle.flex.proofs.Signs.{All}
use Rattle.flex_reach.proofs.Units.{px, Num, far, fl, fl_mono, held_num}
use Rattle.flex_reach.proofs.Plus.{Sum, sum_num, sum-under, sum_above}
use Rattle.flex_reach.proofs.Times.{nought_num}
use Rattle.flex_reach.proofs.Clamp.{Upto}
use Rattle.flex_reach.proofs.Totals.{count, count_most, count_long}
use Rattle.flex_reach.proofs.Turn.{under, whole_of, factor_num}
use Rattle.flex_reach.proofs.Space.{Sound}
use Rattle.flex_reach.proofs.Settled.{settled}

-- the sum of two that are not below 0: at most n and m pixels
added : {x y : Float} → Upto (16777216 * px) x → Upto (16777216 * px) y → far false x + far false y ≤ 16777216 * px → Num (x ⊕ y) × (far true (x ⊕ y) ≡ 0) × (far false (x ⊕ y) ≡ fl (far false x + far false y)) × (far false (x ⊕ y) ≤ far false x + far false y + px)
added {x} {y} p q h =
    let r : Sum x y (x ⊕ y) = sum_num p.num q.num (under 16777216 (lit≤ tt) (whole_of p)) (under 16777216 (lit≤ tt) (whole_of q)) in
    let v = sum_above r p.above q.above in
    (r.num, v.1, v.0, sum-under r px sides false)
  where
    sides : (g : Bool) → far g x + far g y ≤ 16777216 * px
    sides false = h
    sides true = le_trans (le_of_eq (ap₂ (λ (a b : ℕ). a + b) p.above q.above)) zero-le

module _ (k : Bool) (sh : Share) (t : Float) where
  room_first : (s a c d : ℕ) → s + (a + c) + (px + d) ≤ 16777216 * px → (s + a ≤ 16777216 * px) × (s ≤ 16777216 * px) × (a ≤ 16777216 * px) × (s + c + d ≤ 16777216 * px)
  room_first s a c d h = omega arith

  room_next : (s a z c d : ℕ) → z ≤ s + a + px → s + (a + c) + (px + d) ≤ 16777216 * px → z + c + d ≤ 16777216 * px
  room_next s a z c d h k = omega arith

  pub fewer : (s r : Float) (l : List Cell) → All (Sound k) l → Num s → far true s ≡ 0 → Num r → far true r ≡ 0 → far false r ≤ far false s
      → far false s + count (λ c. far false (factor k c.item)) l + count (λ c. px) l ≤ 16777216 * px
      → far false (sum_from r (λ c. factor k c.item) (left (map (settle sh t) l))) ≤ far false (sum_from s (λ c. factor k c.item) (left l))
  unfolding sum_from left count
  fewer s r [] ok p p' q q' h b = h
  fewer s r (c ∷ l) ok p p' q q' h b =
      let m = room_first (far false s) (far false (factor k c.item)) (count (λ c. far false (factor k c.item)) l) (count (λ c. px) l) b in
      let F : Upto (16777216 * px) (factor k c.item) = record { num = (factor_num ok.0.item k).num; above = (factor_num ok.0.item k).above; most = m.2 } in
      let S : Upto (16777216 * px) s = record { num = p; above = p'; most = m.1 } in
      let R : Upto (16777216 * px) r = record { num = q; above = q'; most = le_trans h m.1 } in
      let a = added S F m.0 in
      let a' = added R F (le_trans (more (far false r) (far false s) (far false (factor k c.item)) h) m.0) in
      let keep : far false s ≤ far false (s ⊕ factor k c.item) = le_trans (le_of_eq (sym (held_num p false).stays)) (le_trans (fl_mono (far false s) (far false s + far false (factor k c.item)) (omega arith)) (le_of_eq (sym a.2))) in
      let both : far false (r ⊕ factor k c.item) ≤ far false (s ⊕ factor k c.item) = le_trans (le_of_eq a'.2) (le_trans (fl_mono (far false r + far false (factor k c.item)) (far false s + far false (factor k c.item)) (more (far false r) (far false s) (far false (factor k c.item)) h)) (le_of_eq (sym a.2))) in
      let b' = room_next (far false s) (far false (factor k c.item)) (far false (s ⊕ factor k c.item)) (count (λ c. far false (factor k c.item)) l) (count (λ c. px) l) a.3 b in
      settled sh t c (λ d. far false (sum_from r (λ c. factor k c.item) (cond d.frozen (left (map (settle sh t) l)) (d ∷ left (map (settle sh t) l)))) ≤ far false (sum_from s (λ c. factor k c.item) (cond c.frozen (left l) (c ∷ left l))))
      (λ e. subst (λ (b : Bool). far false (sum_from r (λ c. factor k c.item) (cond b (left (map (settle sh t) l)) (c ∷ left (map (settle sh t) l)))) ≤ far false (sum_from s (λ c. factor k c.item) (cond b (left l) (c ∷ left l)))) (sym e)
      (fewer s r l ok.1 p p' q q' h m.3))
      (λ e d. subst (λ (b : Bool). far false (sum_from r (λ c. factor k c.item) (left (map (settle sh t) l))) ≤ far false (sum_from s (λ c. factor k c.item) (cond b (left l) (c ∷ left l)))) (sym e)
      (fewer (s ⊕ factor k c.item) r l ok.1 a.0 a.1 q q' (le_trans h keep) b'))
      (λ e d. subst (λ (b : Bool). far false (sum_from (r ⊕ factor k c.item) (λ c. factor k c.item) (left (map (settle sh t) l))) ≤ far false (sum_from s (λ c. factor k c.item) (cond b (left l) (c ∷ left l)))) (sym e)
      (fewer (s ⊕ factor k c.item) (r ⊕ factor k c.item) l ok.1 a.0 a.1 a'.0 a'.1 both b'))
    where
      more : (r s a : ℕ) → r ≤ s → r + a ≤ s + a
      more r s a h = omega arith

  pub fewer_factors : (l : List Cell) → All (Sound k) l → length l ≤ 1024 → far false (total (λ c. factor k c.item) (left (map (settle sh t) l))) ≤ far false (total (λ c. factor k c.item) (left l))
  fewer_factors l ok n = fewer nought nought l ok nought_num.0 (nought_num.1 true) nought_num.0 (nought_num.1 true) (le_refl (far false nought))
      (fits (far false nought) (count (λ c. far false (factor k c.item)) l) (count (λ c. px) l) px (nought_num.1 false)
      (count_most (λ c. far false (factor k c.item)) (1024 * px) 1024 l (all_map (λ c s. (factor_num s.item k).most) l ok) n)
      (le_trans (le_of_eq (count_long px l)) (mul-le-mul_right px n)))
    where
      fits : (s c d p : ℕ) → s ≡ 0 → c ≤ 1024 * (1024 * p) → d ≤ 1024 * p → s + c + d ≤ 16777216 * p
      fits s c d p e h k = omega arith
