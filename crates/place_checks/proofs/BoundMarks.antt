-- The marks of the container's three bounds, and of what else is taken of it. Assumes nothing.
use mathlib.Core.Path.{◌≡◌, sym, ap₂, ◌∙◌}
use mathlib.Core.List.{List, ◌++◌}
use Prim.Native.Nat.{ℕ, min}
use Rattle.checks.specs.Domain.{Number}
use Rattle.checks.specs.Marks.{least_of}
use Rattle.checks.proofs.Checks.{least_append}
use Rattle.place_checks.specs.declared.numbers.CrossNumbers.{CrossNumbers}
use Rattle.place_checks.specs.Numbers.{coded_bound, bounds_numbers}

pub bounds_marks : (c : CrossNumbers) (rest : List Number) {a b d p x y r : ℕ} → a ≡ least_of (coded_bound c.has_inner c.inner) 0 → b ≡ least_of (coded_bound c.has_minimum c.minimum) 0
    → d ≡ least_of (coded_bound c.has_maximum c.maximum) 0 → p ≡ least_of rest 0 → x ≡ min d p → y ≡ min b x → r ≡ min a y → r ≡ least_of (bounds_numbers c rest) 0
bounds_marks c rest pa pb pd pp px py pr =
    let A = coded_bound c.has_inner c.inner in
    let B = coded_bound c.has_minimum c.minimum in
    let D = coded_bound c.has_maximum c.maximum in
    let qx = px ∙ ap₂ min pd pp ∙ sym (least_append D rest 0) in
    let qy = py ∙ ap₂ min pb qx ∙ sym (least_append B (D ++ rest) 0) in
    pr ∙ ap₂ min pa qy ∙ sym (least_append A (B ++ (D ++ rest)) 0)
