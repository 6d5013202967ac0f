-- `grid::bits_are_multiple` meets its contract: the law of proofs/Fields. Assumes nothing.
use mathlib.Core.Path.{◌≡◌, sym, ap, ◌∙◌, subst}
use mathlib.Core.Bool.{true, not, ◌||◌}
use Prim.Native.Nat.{ℕ, ◌+◌, ◌*◌, ◌/◌, ◌%◌, ◌<◌}
use native.Mathlib.Omega.{arith}
use lib.Dec.{T, ltb, eqb}
use lib.IntN.{pos}
use lib.Ieee.{binary32, is_nan, of_bits, of_int, in_float, to_bits}
use lib.Ieee.Scale.{finite}
use Rattle.grid.specs.Grid.{on_grid}
use Rattle.grid.specs.Bits.{Lowest}
use Rattle.grid.proofs.Fields.{lead_place, power_in, power_real, power_bits, bits_grid}
use Rattle.grid.proofs.bits_are_multiple.Goals as goal

-- the power of 2 by the place of its digit, and the bits of its float
module _ (b q r : ℕ) (e : q % 16777216 ≡ 8388608 + b % 8388608) (l : Lowest q r) where
  fits_in : T (in_float binary32 (pos r))
  fits_in = subst (λ (n : ℕ). T (in_float binary32 (pos n))) (sym l.power) (power_in l.place (lead_place b q e r l))

  real : T (not (is_nan (of_int binary32 (pos r))))
  real = subst (λ (n : ℕ). T (not (is_nan (of_int binary32 (pos n))))) (sym l.power) (power_real l.place (lead_place b q e r l))

  bits : to_bits binary32 (of_int binary32 (pos r)) ≡ (l.place + 127) * 8388608
  bits = ap (λ (n : ℕ). to_bits binary32 (of_int binary32 (pos n))) l.power ∙ power_bits l.place (lead_place b q e r l)

  sum_fits : to_bits binary32 (of_int binary32 (pos r)) + b % 2147483648 < 4294967296
  sum_fits = omega (arith, bits, lead_place b q e r l)

  answer : finite (of_bits binary32 b) ≡ true
      → (ltb 270 ((to_bits binary32 (of_int binary32 (pos r)) + b % 2147483648) / 8388608) || eqb (b % 2147483648) 0) ≡ on_grid (of_bits binary32 b)
  answer f =
      let d = b % 2147483648 in
      let s : (to_bits binary32 (of_int binary32 (pos r)) + d) / 8388608 ≡ l.place + 127 + d / 8388608 = omega (arith, bits) in
      ap (λ (n : ℕ). ltb 270 n || eqb d 0) s ∙ bits_grid b q e r l f

-- ---- the needs
pub int_to_float-power : goal.int_to_float-power
int_to_float-power c =
    let w = c.with_lead in
    fits_in c.args.b w.result c.lowest_digit-power.result w.ensures c.lowest_digit-power.ensures

pub float_to_bits-result : goal.float_to_bits-result
float_to_bits-result c =
    let w = c.with_lead in
    real c.args.b w.result c.lowest_digit-power.result w.ensures c.lowest_digit-power.ensures

pub overflow_add-result : goal.overflow_add-result
overflow_add-result c =
    let w = c.with_lead in
    record { fits = sum_fits c.args.b w.result c.lowest_digit-power.result w.ensures c.lowest_digit-power.ensures }

pub returns : goal.returns
returns c =
    let w = c.with_lead in
    answer c.args.b w.result c.lowest_digit-power.result w.ensures c.lowest_digit-power.ensures
