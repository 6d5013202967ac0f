-- The sum before a line, by the two ways that the code takes it, and what the machine's sums and sizes hold. Assumes nothing.
use mathlib.Core.Path.{◌≡◌, refl, ap, subst}
use mathlib.Core.List.{List}
use Prim.Native.Nat.{ℕ, zero, suc, ◌+◌, ◌-◌, ◌^◌, ◌≤◌, ◌<◌}
use native.Mathlib.Omega.{arith}
use lib.ListN.{length, get_or}
use lib.Ieee.{Float, nan, binary64, of_bits, sub}
use Rattle.balance_rule.specs.Sizes.{pre, size_at}
use Rattle.balance_rule.proofs.SizesLaws.{pre_mono, pre_gap}
use Rattle.balance_sums.specs.Whole.{Holds}
use Rattle.balance_sums.specs.Sums.{before_f, size_f, base_f}
use Rattle.balance_sums.proofs.WholeLaws.{add_holds, sub_holds}

pub before_zero : (sums : List Float) (s : ℕ) → s ≡ 0 → of_bits binary64 0 ≡ before_f sums s
unfolding of_bits
before_zero sums s e = rw e refl

pub before_pos : (sums : List Float) (s : ℕ) → ¬ (s ≡ 0) → get_or sums (s - 1) nan ≡ before_f sums s
before_pos sums zero f = absurd (f refl)
before_pos sums (suc s) f = ap (λ (i : ℕ). get_or sums i nan) (let e : suc s - 1 ≡ s = omega arith in e)

-- ---- what the machine's numbers hold
module _ (sums : List Float) (gapF : Float) (gap : ℕ) (xs : List ℕ) (gi : Holds gapF gap) (si : (i : ℕ) → i < length xs → Holds (get_or sums i nan) (pre gap xs (suc i)))
    (small : pre gap xs (length xs) ≤ 2 ^ 24) where
  before_holds : (s : ℕ) → s ≤ length xs → Holds (before_f sums s) (pre gap xs s)
  before_holds zero h = (refl, refl)
  before_holds (suc i) h = si i h

  pub size_holds : (s e : ℕ) → s ≤ e → e < length xs → Holds (size_f sums gapF s e) (size_at gap xs s (suc e))
  size_holds s e l h =
      let a : pre gap xs (suc e) ≤ pre gap xs (length xs) = pre_mono gap xs (suc e) (length xs) h in
      let b : pre gap xs s + gap ≤ pre gap xs (suc e) = pre_gap gap xs s (suc e) (omega arith) h in
      let x : Holds (sub binary64 (get_or sums e nan) (before_f sums s)) (pre gap xs (suc e) - pre gap xs s) = sub_holds (get_or sums e nan) (before_f sums s) (pre gap xs (suc e)) (pre gap xs s) (si e h) (before_holds s (omega arith)) (omega arith) (omega arith) in
      let y : Holds (size_f sums gapF s e) (pre gap xs (suc e) - pre gap xs s - gap) = sub_holds (sub binary64 (get_or sums e nan) (before_f sums s)) gapF (pre gap xs (suc e) - pre gap xs s) gap x gi (omega arith) (omega arith) in
      let z : pre gap xs (suc e) - pre gap xs s - gap ≡ size_at gap xs s (suc e) = omega arith in
      subst (Holds (size_f sums gapF s e)) z y

  -- the same by the sum before the line with its gap
  pub base_holds : (s e : ℕ) → s ≤ e → e < length xs → Holds (sub binary64 (get_or sums e nan) (base_f sums gapF s)) (size_at gap xs s (suc e))
  base_holds s e l h =
      let a : pre gap xs (suc e) ≤ pre gap xs (length xs) = pre_mono gap xs (suc e) (length xs) h in
      let b : pre gap xs s + gap ≤ pre gap xs (suc e) = pre_gap gap xs s (suc e) (omega arith) h in
      let x : Holds (base_f sums gapF s) (pre gap xs s + gap) = add_holds (before_f sums s) gapF (pre gap xs s) gap (before_holds s (omega arith)) gi (omega arith) in
      let y : Holds (sub binary64 (get_or sums e nan) (base_f sums gapF s)) (pre gap xs (suc e) - (pre gap xs s + gap)) = sub_holds (get_or sums e nan) (base_f sums gapF s) (pre gap xs (suc e)) (pre gap xs s + gap) (si e h) x b (omega arith) in
      let z : pre gap xs (suc e) - (pre gap xs s + gap) ≡ size_at gap xs s (suc e) = omega arith in
      subst (Holds (sub binary64 (get_or sums e nan) (base_f sums gapF s))) z y
