-- What the auto margins of an item across its line take, by which of them are auto and by the sign of the free space. Assumes nothing.
use mathlib.Core.Path.{◌≡◌, sym, ap, ◌∙◌}
use mathlib.Core.Bool.{Bool, true, false, cond, ◌&&◌, and-false}
use lib.Ieee.{Float, lt}
use Rattle.grid.specs.Floats.{◌⊕◌, ◌⊘◌, nought, two}
use Rattle.place_size.specs.declared.cross_size.CrossItem.{CrossItem}
use Rattle.place_cross.specs.CrossAxis.{auto_margin, start_margin, end_margin}

module _ (free : Float) (it : CrossItem) where
  pub halved : (it.auto_start && it.auto_end) ≡ true → free ⊘ two ≡ auto_margin free it
  unfolding auto_margin
  halved p = sym (ap (λ (b : Bool). cond b (free ⊘ two) free) p)

  pub whole : (it.auto_start && it.auto_end) ≡ false → free ≡ auto_margin free it
  unfolding auto_margin
  whole p = sym (ap (λ (b : Bool). cond b (free ⊘ two) free) p)

  -- With free space of 0 or more an auto margin takes its share, and a given one stays ..
  pub start_long : lt free nought ≡ false → start_margin free it ≡ cond it.auto_start (auto_margin free it) it.start
  unfolding start_margin
  start_long q = ap (λ (b : Bool). cond it.auto_start (cond b nought (auto_margin free it)) it.start) q

  pub end_long : lt free nought ≡ false → end_margin free it ≡ cond it.auto_end (auto_margin free it) it.end
  unfolding end_margin
  end_long q =
      ap (λ (b : Bool). cond it.auto_end (cond b free (auto_margin free it)) (cond (it.auto_start && b) (it.end ⊕ free) it.end)) q
      ∙ ap (λ (b : Bool). cond it.auto_end (auto_margin free it) (cond b (it.end ⊕ free) it.end)) (and-false it.auto_start)

  -- .. so that an auto one is its share.
  pub start_shares : it.auto_start ≡ true → lt free nought ≡ false → auto_margin free it ≡ start_margin free it
  start_shares p q = sym (start_long q ∙ ap (λ (b : Bool). cond b (auto_margin free it) it.start) p)

  pub end_shares : it.auto_end ≡ true → lt free nought ≡ false → auto_margin free it ≡ end_margin free it
  end_shares p q = sym (end_long q ∙ ap (λ (b : Bool). cond b (auto_margin free it) it.end) p)
