-- `checks_number::mark_float` meets its contract, check by check: `marked` names the outcome of each. Assumes nothing.
use mathlib.Core.Path.{◌≡◌, refl, sym, ap, ap₂, ◌∙◌}
use mathlib.Core.Bool.{Bool, true, false, not, cond}
use Prim.Native.Nat.{ℕ, ◌+◌}
use lib.Ieee.{Float}
use lib.Ieee.Scale.{finite}
use Rattle.checks.specs.declared.Kind.{Kind}
use Rattle.checks.specs.Domain.{float, not_finite, off_grid, out_of_range, in_range}
use Rattle.checks.specs.Marks.{mark}
use Rattle.checks_number.proofs.mark_float.Goals as goal

marked : (kind : Kind) (x : Float) (place : ℕ) (a b d : Bool) → a ≡ finite x → b ≡ off_grid (float kind x) → d ≡ in_range kind x
    → cond (not a) place (cond b (2048 + place) (cond (not d) (4096 + place) 6144)) ≡ mark (float kind x) place
unfolding mark not_finite out_of_range
marked kind x place a b d p q r =
    ap₂ (λ (s t : Bool). cond (not s) place (cond t (2048 + place) (cond (not d) (4096 + place) 6144))) p q
    ∙ ap (λ (t : Bool). cond (not (finite x)) place (cond (off_grid (float kind x)) (2048 + place) (cond (not t) (4096 + place) 6144))) r

pub returns-then-not-is_finite : goal.returns-then-not-is_finite
returns-then-not-is_finite c = let a = c.args in marked a.kind a.x a.place false _ _ (sym c.if-not-is_finite.true ∙ c.is_finite.ensures) refl refl

pub returns-then-off_grid : goal.returns-then-off_grid
returns-then-off_grid c =
    let a = c.args in
    marked a.kind a.x a.place true true _
    (sym c.if-not-is_finite.false ∙ c.is_finite.ensures)
    (sym c.if-off_grid.true ∙ c.off_grid.ensures a.kind c.bounds_of-b.ensures)
    refl

pub returns-then-in_range : goal.returns-then-in_range
returns-then-in_range c =
    let a = c.args in
    marked a.kind a.x a.place true false true
    (sym c.if-not-is_finite.false ∙ c.is_finite.ensures)
    (sym c.if-off_grid.false ∙ c.off_grid.ensures a.kind c.bounds_of-b.ensures)
    (sym c.if-in_range.true ∙ c.in_range.ensures a.kind c.bounds_of-b.ensures)

pub returns-else-in_range : goal.returns-else-in_range
returns-else-in_range c =
    let a = c.args in
    marked a.kind a.x a.place true false false
    (sym c.if-not-is_finite.false ∙ c.is_finite.ensures)
    (sym c.if-off_grid.false ∙ c.off_grid.ensures a.kind c.bounds_of-b.ensures)
    (sym c.if-in_range.false ∙ c.in_range.ensures a.kind c.bounds_of-b.ensures)
