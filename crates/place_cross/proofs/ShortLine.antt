-- CSS-FLEX 9.6 of an item with an auto margin on a line that is too short, in whole sixty-fourths. Assumes nothing.
use mathlib.Core.Path.{◌≡◌, sym, ap, ◌∙◌, subst}
use mathlib.Core.Bool.{Bool, true, false, cond, ◌&&◌, ◌||◌}
use Prim.Native.Nat.{◌≤◌}
use native.Mathlib.Omega.{arith}
use lib.Dec.{T}
use lib.IntN.{ℤ, neg_ℤ, nat_abs, ◌+ℤ◌, ◌-ℤ◌, +ℤ_idr, +ℤ_assoc, +ℤ_comm, neg_ℤ-+ℤ, -ℤ-+ℤ_cancel}
use lib.Ieee.{Float, binary32, of_bits, lt}
use Rattle.grid.specs.Floats.{◌⊕◌, nought}
use Rattle.grid.specs.Grid.{on_grid, sixty_fourths}
use Rattle.grid.specs.Values.{At}
use Rattle.grid.proofs.Exact.{add_at, sub_at}
use Rattle.grid.proofs.Meaning.{at_of_grid, grid_of_at}
use Rattle.grid.proofs.Sums.{six, abs-add, abs-sub}
use Rattle.place_size.specs.CrossSize.{or_nought, margins}
use Rattle.place_size.specs.declared.cross_size.CrossItem.{CrossItem}
use Rattle.place_cross.specs.CrossAxis.{has_auto, free_cross, auto_margin, start_margin, end_margin}

-- ---- whole numbers: what is left of l beside w and e, and e more

rest : (l w e : ℤ) → l -ℤ (w +ℤ e) ≡ l -ℤ w -ℤ e
rest l w e = ap (λ (k : ℤ). l +ℤ k) (neg_ℤ-+ℤ w e) ∙ sym (+ℤ_assoc l (neg_ℤ w) (neg_ℤ e))

more : (l w e : ℤ) → e +ℤ (l -ℤ (w +ℤ e)) ≡ l -ℤ w
more l w e = ap (λ (k : ℤ). e +ℤ k) (rest l w e) ∙ +ℤ_comm e (l -ℤ w -ℤ e) ∙ -ℤ-+ℤ_cancel (l -ℤ w) e

-- ---- lengths

-- on the grid, and of at most 65,536 px: no sum of four of them is rounded
pub record Small (x : Float) : Type 0 where
  pub grid : T (on_grid x)
  pub small : nat_abs (sixty_fourths x) ≤ 4194304

small_at : (x : Float) → Small x → At 64 x (sixty_fourths x)
small_at x h = at_of_grid x h.grid

-- the margin that takes the rest k − (u + e), auto (e is then 0) or given: it makes up what u leaves of k
makes_up : (auto : Bool) (x f : Float) (k u : ℤ) → Small (or_nought auto x) → At 64 f (k -ℤ (u +ℤ sixty_fourths (or_nought auto x))) → nat_abs (k -ℤ u) ≤ 16777216 → At 64 (cond auto f (x ⊕ f)) (k -ℤ u)
unfolding sixty_fourths of_bits
makes_up true x f k u h p b = subst (λ (y : ℤ). At 64 f (k -ℤ y)) (+ℤ_idr u) p
makes_up false x f k u h p b =
    subst (At 64 (x ⊕ f)) (more k u (sixty_fourths x))
    (add_at binary32 6 {x = x} {y = f} (six binary32) (small_at x h) p (subst (λ (y : ℤ). nat_abs y ≤ 16777216) (sym (more k u (sixty_fourths x))) b))

-- which margin that is: the end one
end_short : (free : Float) (it : CrossItem) → T (has_auto it) → lt free nought ≡ true → end_margin free it ≡ cond it.auto_end free (it.end ⊕ free)
unfolding end_margin
end_short free it a q = go it.auto_start it.auto_end (lt free nought) a q
  where
    go : (p r b : Bool) → T (p || r) → b ≡ true → cond r (cond b free (auto_margin free it)) (cond (p && b) (it.end ⊕ free) it.end) ≡ cond r free (it.end ⊕ free)
    go p true b a q = ap (λ (t : Bool). cond t free (auto_margin free it)) q
    go true false b a q = ap (λ (t : Bool). cond t (it.end ⊕ free) it.end) q
    go false false b a q = absurd a

module _ (line size : Float) (it : CrossItem) where
  abbrev start : Float
  start = or_nought it.auto_start it.start

  abbrev end : Float
  end = or_nought it.auto_end it.end

  abbrev free : Float
  free = free_cross line it size

  -- "if the block-start or inline-start margin (whichever is in the cross axis) is auto, set it to zero": it is its given one, or 0
  pub short_start : lt free nought ≡ true → start_margin free it ≡ start
  unfolding start_margin
  short_start q = ap (λ (b : Bool). cond it.auto_start (cond b nought (auto_margin free it)) it.start) q

  module _ (hl : Small line) (hz : Small size) (hs : Small start) (he : Small end) where
    -- what line, size and given margins leave
    left : At 64 free (sixty_fourths line -ℤ (sixty_fourths size +ℤ (sixty_fourths start +ℤ sixty_fourths end)))
    unfolding free_cross margins
    left =
        let s = sixty_fourths start in
        let e = sixty_fourths end in
        let z = sixty_fourths size in
        let a = abs-add s e in
        let b = abs-add z (s +ℤ e) in
        sub_at binary32 6 {x = line} {a = sixty_fourths line} (six binary32) (small_at line hl)
        (add_at binary32 6 {x = size} {a = z} (six binary32) (small_at size hz)
        (add_at binary32 6 {x = start} {y = end} (six binary32) (small_at start hs) (small_at end he) (omega (arith, a, hs.small, he.small)))
        (omega (arith, a, b, hs.small, he.small, hz.small)))
        (omega (arith, a, b, abs-sub (sixty_fourths line) (z +ℤ (s +ℤ e)), hs.small, he.small, hz.small, hl.small))

    -- "Set the opposite margin so that the outer cross size of the item equals the cross size of its flex line."
    pub short_fills : T (has_auto it) → lt free nought ≡ true → T (on_grid (end_margin free it)) × (sixty_fourths (end_margin free it) +ℤ (sixty_fourths size +ℤ sixty_fourths (start_margin free it)) ≡ sixty_fourths line)
    short_fills a q =
        let s = sixty_fourths start in
        let e = sixty_fourths end in
        let z = sixty_fourths size in
        let l = sixty_fourths line in
        let w = z +ℤ s in
        let ending = grid_of_at (end_margin free it) (l -ℤ w) (subst (λ (x : Float). At 64 x (l -ℤ w)) (sym (end_short free it a q)) (makes_up it.auto_end it.end free l w he (subst (λ (k : ℤ). At 64 free (l -ℤ k)) (sym (+ℤ_assoc z s e)) left) (omega (arith, abs-sub l w, abs-add z s, hl.small, hz.small, hs.small)))) in (
          ending.0,
          ap (λ (x : Float). sixty_fourths (end_margin free it) +ℤ (z +ℤ sixty_fourths x)) (short_start q)
              ∙ ap (λ (k : ℤ). k +ℤ w) ending.1
              ∙ -ℤ-+ℤ_cancel l w,
        )
