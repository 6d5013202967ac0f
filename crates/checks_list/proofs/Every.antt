-- A question asked of every item: of one item more, and that a list whose numbers are all fine has no mark. Assumes nothing.
use mathlib.Core.Path.{◌≡◌, refl, ap, ap₂, ◌∙◌}
use mathlib.Core.Bool.{Bool, true, false, not, ◌&&◌, ◌||◌}
use Prim.Native.Nat.{ℕ, zero, suc, ◌+◌, min}
use native.Mathlib.Nat.{min-eq_left, le_refl}
use native.Mathlib.Numerals.{add-one}
use lib.Dec.{leb}
use borrow.Author.Tests.{le-ltb, leb-true}
use Rattle.checks.specs.Domain.{Number, code, not_finite, off_grid, out_of_range}
use Rattle.checks.proofs.Marked.{and_true}
use Rattle.checks.specs.Marks.{mark, least_of, least_up_to}
use Rattle.checks.specs.Optional.{optional}
use Rattle.checks_number.specs.Bounds.{fine}
use Rattle.checks_number.proofs.Fine.{fine-mark}
use Rattle.checks_list.specs.Every.{every}

pub every-none : (p : ℕ → Bool) → every p 0 ≡ true
unfolding every
every-none p = refl

pub every_more : (p : ℕ → Bool) (i : ℕ) → every p (i + 1) ≡ (every p i && p i)
unfolding every
every_more p i = ap (every p) (add-one i)

-- f are the marks of items that p is asked of
pub no_marks : (f : ℕ → ℕ) (p : ℕ → Bool) → ((i : ℕ) → p i ≡ true → f i ≡ 6144) → (n : ℕ) → every p n ≡ true → least_up_to f n ≡ 6144
unfolding every least_up_to
no_marks f p h zero e = refl
no_marks f p h (suc n) e = let q = and_true (every p n) (p n) e in ap₂ min (no_marks f p h n q.0) (h n q.1) ∙ min-eq_left (le_refl 6144)

-- a number that may be absent
pub given_none : (given : Bool) (x : Number) (place : ℕ) → (not given || fine x) ≡ true → least_of (optional given x) place ≡ 6144
unfolding least_of
given_none true x place e = ap (λ (m : ℕ). min m 6144) (fine-mark x place e) ∙ min-eq_left (le_refl 6144)
given_none false x place e = refl

-- a code
pub named_none : (most c place : ℕ) → leb c most ≡ true → mark (code most c) place ≡ 6144
unfolding not_finite off_grid out_of_range
named_none most c place e = fine-mark (code most c) place (ap not (le-ltb most c (leb-true c most e)))
