-- The fallback by what it turns on, and at free space of exactly 0, where the definition computes. Assumes nothing.
use mathlib.Core.Path.{◌≡◌, refl, ap, ◌∙◌}
use mathlib.Core.Bool.{Bool, true, false, cond, ◌||◌}
use Prim.Native.Nat.{ℕ}
use lib.Dec.{leb}
use lib.Ieee.{Float, of_bits, le, lt}
use Rattle.keywords.specs.declared.Position.TheVariants.{FlexStart, Center}
use Rattle.keywords.specs.declared.Distribution.{Distribution}
use Rattle.keywords.specs.declared.Distribution.TheVariants.{SpaceBetween, SpaceAround}
use Rattle.keywords.specs.declared.ContentAlignment.TheVariants.{Safe, Spread}
use Rattle.grid.specs.Floats.{nought}
use Rattle.place_align.specs.Align.{fallback_of, fallback}

-- three items and no free space: "when free ≤ 0"
at_0 : (fallback nought 3 (Spread SpaceBetween) ≡ Safe FlexStart) × (fallback nought 3 (Spread SpaceAround) ≡ Safe Center)
unfolding fallback of_bits le lt
at_0 = (refl, refl)

module _ (free : Float) (n : ℕ) (d : Distribution) where
  -- no free space
  pub falls_short : le free nought ≡ true → fallback free n (Spread d) ≡ fallback_of d
  unfolding fallback
  falls_short p = ap (λ (b : Bool). cond (b || leb n 1) (fallback_of d) (Spread d)) p

  -- at most one item
  pub falls_alone : le free nought ≡ false → leb n 1 ≡ true → fallback free n (Spread d) ≡ fallback_of d
  unfolding fallback
  falls_alone p q = ap (λ (b : Bool). cond (b || leb n 1) (fallback_of d) (Spread d)) p ∙ ap (λ (b : Bool). cond b (fallback_of d) (Spread d)) q

  pub stays : le free nought ≡ false → leb n 1 ≡ false → fallback free n (Spread d) ≡ Spread d
  unfolding fallback
  stays p q = ap (λ (b : Bool). cond (b || leb n 1) (fallback_of d) (Spread d)) p ∙ ap (λ (b : Bool). cond b (fallback_of d) (Spread d)) q
