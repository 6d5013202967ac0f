-- What the loops over a list of items keep: the least of one item more. Assumes nothing.
use mathlib.Core.Path.{◌≡◌, refl, ap}
use Prim.Native.Nat.{ℕ, ◌+◌, min}
use native.Mathlib.Numerals.{add-one}
use Rattle.checks.specs.Marks.{least_up_to}

pub least_none : (f : ℕ → ℕ) → least_up_to f 0 ≡ 6144
unfolding least_up_to
least_none f = refl

pub least_more : (f : ℕ → ℕ) (i : ℕ) → least_up_to f (i + 1) ≡ min (least_up_to f i) (f i)
unfolding least_up_to
least_more f i = ap (least_up_to f) (add-one i)
