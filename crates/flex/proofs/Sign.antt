-- The free space of a line is negative exactly when the line is overfull: its hypothetical outer sizes and gaps are more than the inner size. Assumes nothing.
use mathlib.Core.Path.{◌≡◌, refl, ap, ◌∙◌}
use mathlib.Core.Bool.{Bool, true, false, cond}
use mathlib.Core.List.{List}
use Prim.Native.Nat.{ℕ, zero, suc, ◌+◌, ◌-◌, zero-le}
use native.Mathlib.Nat.{add-zero, zero-lt-suc}
use lib.Dec.{ltb, leb-suc-suc}
use lib.ListN.{length}
use lib.IntN.{ℤ, pos, negsuc, sub_ℕ, ◌+ℤ◌, ◌-ℤ◌, ◌*ℤ◌}
use lib.Signed.{lt_z}
use lib.Ieee.{Float}
use borrow.Author.Tests.{lt-ltb, le-ltb}
use Rattle.grid.specs.Grid.{sixty_fourths}
use Rattle.flex.specs.declared.Item.{Item}
use Rattle.flex.specs.Flex.{sum_units, free_before}

sub_below : (a b : ℕ) → lt_z (sub_ℕ a b) (pos 0) ≡ ltb a b
sub_below a b = go (ltb a b) (b - suc a) (a - b)
  where
    go : (t : Bool) (x y : ℕ) → lt_z (cond t (negsuc x) (pos y)) (pos 0) ≡ t
    go true x y = refl
    go false x y = le-ltb y 0 zero-le

below : (a b : ℤ) → lt_z (a -ℤ b) (pos 0) ≡ lt_z a b
below (pos a) (pos zero) = ap (λ (n : ℕ). ltb n 0) (add-zero a)
below (pos a) (pos (suc k)) = sub_below a (suc k)
below (pos a) (negsuc b) = le-ltb (a + suc b) 0 zero-le
below (negsuc a) (pos zero) = sub_below 0 (suc a) ∙ lt-ltb 0 (suc a) (zero-lt-suc a)
below (negsuc a) (pos (suc k)) = refl
below (negsuc a) (negsuc b) = sub_below (suc b) (suc a) ∙ leb-suc-suc (suc b) a

pub overfull : (inner gap : Float) (items : List Item) → lt_z (free_before inner gap items) (pos 0) ≡ lt_z (sixty_fourths inner) (sixty_fourths gap *ℤ pos (length items - 1) +ℤ sum_units items)
overfull inner gap items = below (sixty_fourths inner) (sixty_fourths gap *ℤ pos (length items - 1) +ℤ sum_units items)
