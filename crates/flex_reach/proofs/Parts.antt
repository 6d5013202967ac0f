-- The parts that a round shares out come to the free space but for 2 ^ -12 of it and a pixel. The weights' rounded sum is nearly their sum, each
-- quotient and each product is nearly exact, and what is lost is summed up. Assumes nothing.
use mathlib.Core.Path.{◌≡◌, ap}
use mathlib.Core.Bool.{Bool, true, false, not, cond, ◌||◌}
use mathlib.Core.List.{List, [], ◌∷◌}
use Prim.Native.Nat.{ℕ, suc, ◌+◌, ◌*◌, ◌≤◌, ◌<◌}
use native.Mathlib.Nat.{le_trans, le_of_eq, mul-le-mul_right, mul-le-mul_left, le_of_mul-le-mul_right}
use native.Mathlib.Omega.{arith}
use lib.Dec.{T, lit≤}
use lib.ListN.{length}
use lib.Ieee.{eq}
use Rattle.flex.specs.declared.Share.{Share}
use Rattle.grid.specs.Floats.{nought}
use Rattle.flex.specs.Flex.{Cell, weight}
use Rattle.flex_reach.proofs.Units.{px, px_pos, far}
use Rattle.flex_reach.proofs.Times.{product, product_near, quotient, quotient_near, eq-nought}
use Rattle.flex_reach.proofs.Totals.{count, count_long}
use Rattle.flex_reach.proofs.Turn.{part, Shares}

px_large : 1152921504606846976 ≤ px
unfolding px
px_large = lit≤ tt

empty : (a n : ℕ) → 16777216 * (0 * a) ≤ n
empty a n = omega arith

module _ {A : Type 0} where
  quotients : (w : A → ℕ) (W : ℕ) → 0 < W → (l : List A) → 16777216 * (count (λ a. quotient (w a) W) l * W) ≤ 16777217 * (count w l * px) + 8388608 * (length l * W)
  unfolding count
  quotients w W h [] = empty W (16777217 * (0 * px) + 8388608 * (0 * W))
  quotients w W h (a ∷ l) = go (quotient (w a) W) (count (λ a. quotient (w a) W) l) (w a) (count w l) (length l) W px (quotient_near (w a) W h) (quotients w W h l)
    where
      go : (q Q v U n W p : ℕ) → 16777216 * (q * W) ≤ 16777216 * (v * p) + (v * p + 8388608 * W) → 16777216 * (Q * W) ≤ 16777217 * (U * p) + 8388608 * (n * W)
          → 16777216 * ((q + Q) * W) ≤ 16777217 * ((v + U) * p) + 8388608 * (suc n * W)
      go q Q v U n W p h k = omega arith

  products : (F : ℕ) (q : A → ℕ) (l : List A) → 16777216 * (count (λ a. product F (q a)) l * px) ≤ 16777217 * (F * count q l) + 8388608 * (length l * px)
  unfolding count
  products F q [] = empty px (16777217 * (F * 0) + 8388608 * (0 * px))
  products F q (a ∷ l) = go (product F (q a)) (count (λ a. product F (q a)) l) F (q a) (count q l) (length l) px (product_near F (q a)) (products F q l)
    where
      go : (s S F q Q n p : ℕ) → 16777216 * (s * p) ≤ 16777216 * (F * q) + (F * q + 8388608 * p) → 16777216 * (S * p) ≤ 16777217 * (F * Q) + 8388608 * (n * p)
          → 16777216 * ((s + S) * p) ≤ 16777217 * (F * (q + Q)) + 8388608 * (suc n * p)
      go s S F q Q n p h k = omega arith

  -- the quotients come to little more than 1
  all_quotients : (w : A → ℕ) (W : ℕ) → 0 < W → (l : List A) → length l ≤ 1024 → 16777216 * count w l ≤ 16777216 * W + length l * W → 8192 * count (λ a. quotient (w a) W) l ≤ 8193 * px
  all_quotients w W h l n e = last (count (λ a. quotient (w a) W) l) px (le_of_mul-le-mul_right (wide (count (λ a. quotient (w a) W) l) (count w l) (length l) W px (quotients w W h l) (mul-le-mul_right W n) (mul-le-mul_right px (share (count w l) (length l) W n e))) h) px_large
    where
      share : (U n W : ℕ) → n ≤ 1024 → 16777216 * U ≤ 16777216 * W + n * W → 16384 * U ≤ 16385 * W
      share U n W h e = go U (n * W) W (mul-le-mul_right W h) e
        where
          go : (U m W : ℕ) → m ≤ 1024 * W → 16777216 * U ≤ 16777216 * W + m → 16384 * U ≤ 16385 * W
          go U m W h e = omega arith

      wide : (Q U n W p : ℕ) → 16777216 * (Q * W) ≤ 16777217 * (U * p) + 8388608 * (n * W) → n * W ≤ 1024 * W → 16384 * U * p ≤ 16385 * W * p
          → 274877906944 * Q * W ≤ (274894700545 * p + 140737488355328) * W
      wide Q U n W p h k l = omega arith

      last : (Q p : ℕ) → 274877906944 * Q ≤ 274894700545 * p + 140737488355328 → 1152921504606846976 ≤ p → 8192 * Q ≤ 8193 * p
      last Q p h k = omega arith

  all_products : (F : ℕ) (q : A → ℕ) (l : List A) → length l ≤ 1024 → 8192 * count q l ≤ 8193 * px → 4096 * count (λ a. product F (q a)) l ≤ 4097 * F + 4096 * px
  all_products F q l n e = last (count (λ a. product F (q a)) l) F px (le_of_mul-le-mul_right (wide (count (λ a. product F (q a)) l) F (count q l) (length l) px (products F q l) (mul-le-mul_right px n) (mul-le-mul_left F e)) px_pos) (le_trans (lit≤ tt) px_large)
    where
      wide : (S F Q n p : ℕ) → 16777216 * (S * p) ≤ 16777217 * (F * Q) + 8388608 * (n * p) → n * p ≤ 1024 * p → F * (8192 * Q) ≤ F * (8193 * p)
          → 137438953472 * S * p ≤ (137455738881 * F + 70368744177664) * p
      wide S F Q n p h k l = omega arith

      last : (S F p : ℕ) → 137438953472 * S ≤ 137455738881 * F + 70368744177664 → 2097152 ≤ p → 4096 * S ≤ 4097 * F + 4096 * p
      last S F p h k = omega arith

-- the parts of a round, over the items that are not frozen
pub parts : (g : Bool) (sh : Share) → Shares g sh → (l : List Cell) → length l ≤ 1024
    → 16777216 * count (λ c. far false (weight sh.growing c.item)) l ≤ 16777216 * far false sh.weights + length l * far false sh.weights
    → 4096 * count (λ c. part g sh c.item) l ≤ 4097 * far g sh.free + 4096 * px
unfolding part
parts g sh s l n e = go (eq sh.free nought) (eq sh.weights nought) (eq-nought s.weights).1
  where
    P : Cell → ℕ
    P c = product (far g sh.free) (quotient (far false (weight sh.growing c.item)) (far false sh.weights))

    none : (l : List Cell) → 4096 * count (λ c. 0) l ≤ 4097 * far g sh.free + 4096 * px
    none l = le_trans (le_of_eq (ap (λ (k : ℕ). 4096 * k) (count_long 0 l))) (zeroes (length l) (far g sh.free) px)
      where
        zeroes : (n F p : ℕ) → 4096 * (n * 0) ≤ 4097 * F + 4096 * p
        zeroes n F p = omega arith

    positive : (a b : ℕ) → b ≡ 0 → 0 < a + b → 0 < a
    positive a b e h = omega arith

    go : (a b : Bool) → (T (not b) → 0 < far false sh.weights + far true sh.weights) → 4096 * count (λ c. cond (a || b) 0 (P c)) l ≤ 4097 * far g sh.free + 4096 * px
    go true b h = none l
    go false true h = none l
    go false false h =
        all_products (far g sh.free) (λ c. quotient (far false (weight sh.growing c.item)) (far false sh.weights)) l n
        (all_quotients (λ c. far false (weight sh.growing c.item)) (far false sh.weights) (positive (far false sh.weights) (far true sh.weights) s.weights_above (h tt)) l n e)
