-- `grid::settled` meets its contract. Assumes nothing.
use mathlib.Core.Path.{◌≡◌, refl, sym, ap, ◌∙◌, subst}
use mathlib.Core.Bool.{true, false}
use lib.Dec.{T}
use lib.Ieee.{Float, nan, inf, fin, binary32, lt, is_nan, of_bits}
use lib.Ieee.Scale.{finite}
use denote.Floats.{passes}
use Rattle.grid.specs.Grid.{on_grid}
use Rattle.grid.proofs.Range.{two^}
use Rattle.grid.proofs.Fields.{far_grid}
use Rattle.grid.proofs.settled.Goals as goal

below-real : (x y : Float) → lt x y ≡ true → is_nan x ≡ false
unfolding lt is_nan
below-real nan y h = absurd (subst T (sym h) tt)
below-real (inf s) y h = refl
below-real (fin s m e) y h = refl

bits : of_bits binary32 1207959552 ≡ two^ 17
unfolding of_bits
bits = refl

least : (is_nan (two^ 17) ≡ false) × (on_grid (two^ 17) ≡ true)
unfolding is_nan on_grid
least = (refl, refl)

pub returns-then-x : goal.returns-then-x
returns-then-x c = (below-real c.args.x _ c.if-x.true, λ h. (h, refl))

pub returns-else-x : goal.returns-else-x
returns-else-x c =
    let x = c.args.x in
    (ap is_nan bits ∙ least.0, λ h. (ap finite bits, ap on_grid bits ∙ least.1 ∙ sym (far_grid x (passes _ c.well_formed.0.1) h (sym (ap (lt x) bits) ∙ c.if-x.false))))
