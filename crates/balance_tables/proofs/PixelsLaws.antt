-- Laws of sizes in pixels and of adding them up. Assumes nothing.
use mathlib.Core.Path.{◌≡◌, refl, sym, ◌∙◌}
use mathlib.Core.Logic.{◌⊎◌, inl, inr}
use mathlib.Core.List.{List}
use mathlib.Core.Bool.{true, false, true≢false, false≢true}
use Prim.Native.Nat.{ℕ, suc, ◌+◌, ◌*◌, ◌^◌, ◌≤◌, ◌<◌, zero-le}
use native.Mathlib.Nat.{mul-one, zero-mul, eq_of_mul-eq-mul_right, eq-zero-or-pos}
use native.Mathlib.Omega.{arith}
use lib.Dec.{lt→ltb}
use lib.ListN.{length, get_or, set}
use lib.IntN.{ℤ, pos, nat_abs}
use lib.Ieee.{Float, nan, inf, fin, binary32, binary64, up, down, add, mul, lt, of_bits}
use lib.Ieee.Exact.{HasValue}
use lib.Ieee.Back.{round_whole}
use lib.Ieee.Scale.{round_same}
use lib.Ieee.Fits.{down_pos}
use Rattle.grid.specs.Values.{At}
use Rattle.grid.proofs.Convert.{scale_at}
use Rattle.std.specs.declared.option.Option.TheVariants.{Some}
use Rattle.break_greedy.specs.Breaking as limit
use Rattle.balance_sums.specs.Whole.{Holds}
use Rattle.balance_rule.specs.Natural.{natural}
use Rattle.balance_rule.proofs.SizesLaws.{pre_step, pre_mono}
use Rattle.balance_tables.specs.Tables.{LimitIs}
use Rattle.balance_tables.proofs.TablesLaws.{SumsSoFar, sums_more, limit_definite}
use Rattle.balance_tables.specs.Pixels.{scaled_f, SizeIs, SizeOut, SizesAre, AddOut}

abbrev pub sixty_four : Float
sixty_four = fin false 1 (pos 6)

pub scaled : (v : Float) (x : ℕ) → x ≤ 2 ^ 53 → HasValue v false x 64 → Holds (mul binary64 v sixty_four) x
unfolding mul
scaled nan x h p = absurd p
scaled (inf s) x h p = absurd p
scaled (fin true m e) x h p = absurd (true≢false p.0)
scaled (fin false m e) x h p =
    rw (round_same binary64 false (m * up e * 64) (down e * 1) x 1 (rw mul-one (down_pos e)) (omega arith) (rw (mul-one (m * up e * 64), mul-one (down e)) p.1))
    (round_whole binary64 false x h)

-- what the test `v > 0` leaves: nothing, or a negative size
pub not_above : (v : Float) (x : ℕ) → lt (fin false 0 (pos 0)) v ≡ false → SizeIs v x → x ≡ 0
unfolding lt
not_above v x t S = go S.is
  where
    go : HasValue v false x 64 ⊎ ((a : ℕ) × HasValue v true a 64 × (x ≡ 0)) → x ≡ 0
    go (inr h) = h.2
    go (inl h) = at v t h
      where
        at : (v : Float) → lt (fin false 0 (pos 0)) v ≡ false → HasValue v false x 64 → x ≡ 0
        at nan t h = absurd h
        at (inf s) t h = absurd h
        at (fin true m e) t h = absurd (true≢false h.0)
        at (fin false m e) t h = none (eq-zero-or-pos (m * up e * 1))
          where
            none : (m * up e * 1 ≡ 0) ⊎ (0 < m * up e * 1) → x ≡ 0
            none (inr p) = absurd (rw t at (lt→ltb (0 * 1 * down e) (m * up e * 1) (rw (zero-mul (down e)) p)))
            none (inl p) =
                let q : x * down e ≡ 0 * down e = sym h.1 ∙ rw (sym (mul-one (m * up e)) ∙ p) (zero-mul 64) ∙ sym (zero-mul (down e)) in
                eq_of_mul-eq-mul_right (down e) (down_pos e) x 0 q

-- and where it is above 0 the size is not negative
pub above : (v : Float) (x : ℕ) → lt (fin false 0 (pos 0)) v ≡ true → SizeIs v x → HasValue v false x 64
unfolding lt
above v x t S = go S.is
  where
    go : HasValue v false x 64 ⊎ ((a : ℕ) × HasValue v true a 64 × (x ≡ 0)) → HasValue v false x 64
    go (inl h) = h
    go (inr h) = absurd (at v t h.1)
      where
        at : (v : Float) → lt (fin false 0 (pos 0)) v ≡ true → HasValue v true h.0 64 → ⊥
        at nan t g = g
        at (inf s) t g = g
        at (fin false m e) t g = false≢true g.0
        at (fin true m e) t g = false≢true t

pub size_above : (v : Float) → lt (of_bits binary32 0) v ≡ true → SizeOut v (scaled_f v)
unfolding of_bits
size_above v t = record { holds = λ x h S. scaled v x h (above v x t S) }

pub size_below : (v : Float) → lt (of_bits binary32 0) v ≡ false → SizeOut v (of_bits binary64 0)
unfolding of_bits
size_below v t = record { holds = λ x h S. rw (not_above v x t S) (refl, refl) }

pub record AddSoFar (sizes : List Float) (gap : Float) (sums : List Float) (acc : Float) (i : ℕ) : Type 0 where
  pub so_far : (g : ℕ) (xs : List ℕ) → SizesAre g xs sizes gap → SumsSoFar g xs sums acc i

pub add_start : (sizes : List Float) (gap : Float) (sums : List Float) → AddSoFar sizes gap sums (of_bits binary64 0) 0
unfolding of_bits
add_start sizes gap sums = record { so_far = λ g xs S. record { acc_is = (refl, refl); sums_are = λ j h. absurd (omega arith) } }

pub add-more : {sizes : List Float} {gap : Float} {sums : List Float} {acc size : Float} {i : ℕ} → i < length sizes → length sums ≡ length sizes → SizeOut (get_or sizes i nan) size
    → AddSoFar sizes gap sums acc i → AddSoFar sizes gap (set sums i (add binary64 acc (add binary64 size gap))) (add binary64 acc (add binary64 size gap)) (i + 1)
add-more {sizes} {gap} {sums} {acc} {size} {i} h e O A = record {
  so_far = λ g xs S.
      let ix : i < length xs = omega (arith, S.count) in
      sums_more g xs sums gap size acc i ix (omega arith) S.small S.gap_is
      (O.holds (get_or xs i 1) (omega (arith, pre_step g xs i ix, pre_mono g xs (suc i) (length xs) ix, S.small)) (S.sizes_are i ix)) (A.so_far g xs S);
}

pub add_end : (sizes : List Float) (gap : Float) (sums : List Float) (acc : Float) (i : ℕ) → length sizes ≤ i → length sums ≡ length sizes → AddSoFar sizes gap sums acc i → AddOut sizes gap sums
add_end sizes gap sums acc i h e A = record {
  sums_are = λ g xs S. record {
    count = e ∙ S.count;
    gap_is = S.gap_is;
    sums_are = λ j l. (A.so_far g xs S).sums_are j (omega (arith, S.count));
    small = S.small;
  };
}

-- a definite limit, in pixels
pub limit_pixels : (v : Float) (z : ℤ) → nat_abs z ≤ 2 ^ 53 → At 64 v z → LimitIs (natural (limit.definite z)) (Some (record { 0 = scaled_f v }))
unfolding of_bits
limit_pixels v z h g = limit_definite z (mul binary64 v sixty_four) (scale_at binary64 0 6 sixty_four zero-le g (refl, refl) h)
