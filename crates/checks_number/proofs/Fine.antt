-- The bounds of a kind are its range, what is in range is finite, and so two comparisons and the test of the grid say whether any check refuses a number.
-- Assumes nothing.
use mathlib.Core.Path.{◌≡◌, refl, sym, ap, ◌∙◌}
use mathlib.Core.Bool.{Bool, true, false, not, cond, ◌&&◌, ◌||◌, false≢true}
use Prim.Native.Nat.{ℕ, ◌+◌}
use lib.Ieee.{Float, nan, inf, fin, le, neg, of_int, of_bits}
use lib.Ieee.Scale.{finite}
use Rattle.grid.specs.Grid.{on_grid, within}
use Rattle.grid.proofs.Range.{range_test, range_from_0}
use Rattle.checks.specs.declared.Kind.{Kind}
use Rattle.checks.specs.declared.Kind.TheVariants.{Length, Margin, Size, Factor, Worked}
use Rattle.checks.specs.Domain.{Number, float, gridded, not_below0, in_range, not_finite, off_grid, out_of_range}
use Rattle.checks.specs.Marks.{mark}
use Rattle.checks_number.specs.Bounds.{px, bounds_of, fine}

-- ---- the range of a kind
and_is : (a b : Bool) → (a && b) ≡ cond a b false
and_is true b = refl
and_is false b = refl

pub in_bounds : (kind : Kind) (x : Float) → (le x (bounds_of kind).high && le (bounds_of kind).low x) ≡ in_range kind x
unfolding in_range of_int of_bits
in_bounds Length x = and_is (le x (px 262144)) (le (neg (px 262144)) x) ∙ range_test 18 x
in_bounds Margin x = and_is (le x (px 131072)) (le (neg (px 131072)) x) ∙ range_test 17 x
in_bounds Size x = and_is (le x (px 262144)) (le (px 0) x) ∙ range_from_0 18 x
in_bounds Factor x = and_is (le x (px 1024)) (le (px 0) x) ∙ range_from_0 10 x
in_bounds Worked x = and_is (le x (px 16777216)) (le (neg (px 16777216)) x) ∙ range_test 24 x

pub free_is : (kind : Kind) → (bounds_of kind).free ≡ not (gridded kind)
free_is Length = refl
free_is Margin = refl
free_is Size = refl
free_is Factor = refl
free_is Worked = refl

within_finite : (n : ℕ) (x : Float) → within n x ≡ true → finite x ≡ true
unfolding within
within_finite n nan e = absurd (false≢true e)
within_finite n (inf s) e = absurd (false≢true e)
within_finite n (fin s m e) h = refl

first : (a b : Bool) → (a && b) ≡ true → a ≡ true
first true b e = refl
first false b e = absurd (false≢true e)

range_finite : (kind : Kind) (x : Float) → in_range kind x ≡ true → finite x ≡ true
unfolding in_range
range_finite Length x e = within_finite 262144 x e
range_finite Margin x e = within_finite 131072 x e
range_finite Size x e = within_finite 262144 x (first (within 262144 x) (not_below0 x) e)
range_finite Factor x e = within_finite 1024 x (first (within 1024 x) (not_below0 x) e)
range_finite Worked x e = within_finite 16777216 x e

-- ---- a number that no check refuses
-- of a number whose outcomes are these: finite, held to the grid, on it, in range, and the test g of the grid, which holds of a finite number
outcomes : (f h o r g : Bool) → (r ≡ true → f ≡ true) → (f ≡ true → g ≡ o) → (r && (not h || g)) ≡ not (not f || ((h && not o) || not r))
outcomes f h o true g p q = ap (λ (d : Bool). not h || d) (q (p refl)) ∙ go h o ∙ ap (λ (d : Bool). not (not d || ((h && not o) || false))) (sym (p refl))
  where
    go : (h o : Bool) → (not h || o) ≡ not ((h && not o) || false)
    go true true = refl
    go true false = refl
    go false o = refl
outcomes false h o false g p q = refl
outcomes true h o false g p q = go (h && not o)
  where
    go : (b : Bool) → false ≡ not (b || true)
    go true = refl
    go false = refl

pub fine_is : (kind : Kind) (x : Float) (g : Bool) → (finite x ≡ true → g ≡ on_grid x) → (in_range kind x && (not (gridded kind) || g)) ≡ fine (float kind x)
unfolding not_finite off_grid out_of_range
fine_is kind x g h = outcomes (finite x) (gridded kind) (on_grid x) (in_range kind x) g (range_finite kind x) h

-- it has no mark
pub fine-mark : (x : Number) (place : ℕ) → fine x ≡ true → mark x place ≡ 6144
unfolding mark
fine-mark x place e = go (not_finite x) (off_grid x) (out_of_range x) e
  where
    go : (a b c : Bool) → not (a || (b || c)) ≡ true → cond a place (cond b (2048 + place) (cond c (4096 + place) 6144)) ≡ 6144
    go true b c h = absurd (false≢true h)
    go false true c h = absurd (false≢true h)
    go false false true h = absurd (false≢true h)
    go false false false h = refl
