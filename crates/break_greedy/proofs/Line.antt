-- One line of greedy breaking: what its loop keeps, its start, a turn and its two ends, on plain values.
-- The running size is exact: it is on the grid and at most the sum of the items before, gaps included. Assumes nothing.
use mathlib.Core.Path.{◌≡◌, sym, ap, ◌∙◌, subst}
use mathlib.Core.Bool.{Bool, true, false, cond}
use mathlib.Core.List.{List, []}
use Prim.Native.Nat.{ℕ, suc, ◌+◌, ◌≤◌, ◌<◌}
use native.Mathlib.Nat.{le_trans, add-zero}
use native.Mathlib.Numerals.{add-one}
use native.Mathlib.Omega.{arith}
use lib.Dec.{T, lit≤}
use lib.ListN.{length, get_or, drop, length-map, get_or-map, drop_of_length-le}
use lib.Seq.{drop-cons}
use lib.IntN.{ℤ, pos, nat_abs, ◌+ℤ◌}
use lib.Ieee.{Float, nan, binary32, add}
use Rattle.grid.specs.Grid.{on_grid, sixty_fourths}
use Rattle.grid.specs.Values.{At}
use Rattle.grid.proofs.Meaning.{at_of_grid}
use Rattle.grid.proofs.Sums.{add_grid, abs-add}
use Rattle.lists.specs.Cells.{sum_up_to}
use Rattle.lists.proofs.UpTo.{sum_more, sum_past}
use Rattle.keywords.specs.declared.AvailableSpace.{AvailableSpace}
use Rattle.break_greedy.specs.Breaking.{limit_of, fits}
use Rattle.break_greedy.specs.Calls.{units}
use Rattle.break_greedy.specs.Steps.{Breakable, LineEnd}
use Rattle.break_greedy.proofs.Taken.{line_one, running, taken_running}

-- the magnitude of a float in sixty-fourths
abbrev magnitude : Float → ℕ
magnitude x = nat_abs (sixty_fourths x)

-- the magnitudes of the first i items, with a gap for each
abbrev before : Float → List Float → ℕ → ℕ
before gap sizes i = sum_up_to (λ k. magnitude (get_or sizes k nan) + magnitude gap) i

-- item i in sixty-fourths
unit_at : (sizes : List Float) (i : ℕ) → get_or (units sizes) i (pos 0) ≡ sixty_fourths (get_or sizes i nan)
unfolding sixty_fourths
unit_at sizes i = get_or-map sixty_fourths sizes i nan

-- the line so far has this size, and the answer is what it still takes from item i on
pub record Inv (sizes : List Float) (gap : Float) (limit : AvailableSpace) (start : ℕ) (size : Float) (i : ℕ) : Type 0 where
  pub inside : i ≤ length sizes
  pub grid : T (on_grid size)
  pub small : magnitude size ≤ before gap sizes i
  pub answer : LineEnd limit gap sizes start (i + running (limit_of limit) (sixty_fourths gap) (sixty_fourths size) (drop i (units sizes)))

flip : (a b : ℕ) → suc a + b ≡ a + suc b
flip a b = omega arith

module _ (sizes : List Float) (gap : Float) (limit : AvailableSpace) (given : Breakable limit gap sizes) where
  -- how many more a line of this size takes from item i on
  abbrev more : Float → ℕ → ℕ
  more size i = running (limit_of limit) (sixty_fourths gap) (sixty_fourths size) (drop i (units sizes))

  pub begin : (start : ℕ) → start < length sizes → Inv sizes gap limit start (get_or sizes start nan) (start + 1)
  begin start h = record {
    inside = omega arith;
    grid = (given.each.each start h).grid;
    small = omega (arith, sum_more (λ k. magnitude (get_or sizes k nan) + magnitude gap) start);
    answer =
        ap (λ (n : ℕ). n + more (get_or sizes start nan) n) (add-one start)
        ∙ flip start (more (get_or sizes start nan) (suc start))
        ∙ ap (λ (n : ℕ). start + suc n)
        (ap (λ (z : ℤ). running (limit_of limit) (sixty_fourths gap) z (drop (suc start) (units sizes))) (sym (unit_at sizes start) ∙ sym (line_one (sixty_fourths gap) (get_or (units sizes) start (pos 0))))
        ∙ sym (taken_running (limit_of limit) (sixty_fourths gap) (get_or (units sizes) start (pos 0)) [] (drop (suc start) (units sizes))));
  }

  module _ (start : ℕ) (size : Float) (i : ℕ) (inv : Inv sizes gap limit start size i) (h : i < length sizes) where
    -- the line with the next item
    abbrev next : Float
    next = add binary32 size (add binary32 (get_or sizes i nan) gap)

    next_is : T (on_grid next) × (sixty_fourths next ≡ sixty_fourths size +ℤ (sixty_fourths (get_or sizes i nan) +ℤ sixty_fourths gap)) × (magnitude next ≤ before gap sizes (i + 1))
    next_is =
        let s = get_or sizes i nan in
        let u = sum_more (λ k. magnitude (get_or sizes k nan) + magnitude gap) i in
        let t = sum_past (λ k. magnitude (get_or sizes k nan) + magnitude gap) i (length sizes) (omega arith) in
        let w = given.small in
        let v = inv.small in
        let b₁ = abs-add (sixty_fourths s) (sixty_fourths gap) in
        let p = add_grid binary32 s gap (given.each.each i h).grid given.spacing.grid (le_trans {m = 16777216} (omega arith) (lit≤ tt)) in
        let b₂ = abs-add (sixty_fourths size) (sixty_fourths s +ℤ sixty_fourths gap) in
        let b₃ : nat_abs (sixty_fourths size +ℤ (sixty_fourths s +ℤ sixty_fourths gap)) ≤ before gap sizes (i + 1) = omega arith in
        let q = add_grid binary32 size (add binary32 s gap) inv.grid p.0
        (subst (λ (z : ℤ). nat_abs (sixty_fourths size +ℤ z) ≤ 16777216) (sym p.1) (le_trans {m = before gap sizes (i + 1)} b₃ (omega arith))) in
        let e : sixty_fourths next ≡ sixty_fourths size +ℤ (sixty_fourths s +ℤ sixty_fourths gap) = q.1 ∙ ap (λ (z : ℤ). sixty_fourths size +ℤ z) p.1 in
        (q.0, e, subst (λ (z : ℤ). nat_abs z ≤ before gap sizes (i + 1)) (sym e) b₃)

    pub next_at : At 64 next (sixty_fourths next)
    next_at = at_of_grid next next_is.0

    -- what is taken from item i on, by whether the next one fits
    more_is : more size i ≡ cond (fits (limit_of limit) (sixty_fourths next)) (suc (more next (suc i))) 0
    unfolding running
    more_is =
        ap (λ (l : List ℤ). running (limit_of limit) (sixty_fourths gap) (sixty_fourths size) l) (drop-cons (units sizes) i (pos 0) (subst (λ (n : ℕ). i < n) (sym (length-map sizes sixty_fourths)) h))
        ∙ ap (λ (z : ℤ). cond (fits (limit_of limit) z) (suc (running (limit_of limit) (sixty_fourths gap) z (drop (suc i) (units sizes)))) 0) (ap (λ (y : ℤ). sixty_fourths size +ℤ (y +ℤ sixty_fourths gap)) (unit_at sizes i) ∙ sym next_is.1)

    more_by : {b : Bool} → b ≡ fits (limit_of limit) (sixty_fourths next) → cond b (suc (more next (suc i))) 0 ≡ more size i
    more_by f = sym (more_is ∙ ap (λ (b : Bool). cond b (suc (more next (suc i))) 0) (sym f))

    pub turn : true ≡ fits (limit_of limit) (sixty_fourths next) → Inv sizes gap limit start next (i + 1)
    turn f = record {
      inside = omega arith;
      grid = next_is.0;
      small = next_is.2;
      answer = ap (λ (n : ℕ). n + more next n) (add-one i) ∙ flip i (more next (suc i)) ∙ ap (λ (n : ℕ). i + n) (more_by f) ∙ inv.answer;
    }

    pub full : false ≡ fits (limit_of limit) (sixty_fourths next) → LineEnd limit gap sizes start i
    full f = sym (add-zero i) ∙ ap (λ (n : ℕ). i + n) (more_by f) ∙ inv.answer

  pub done : (start : ℕ) (size : Float) (i : ℕ) → Inv sizes gap limit start size i → length sizes ≤ i → LineEnd limit gap sizes start i
  unfolding running
  done start size i inv h =
      sym (add-zero i) ∙ ap (λ (n : ℕ). i + n) (sym (ap (λ (l : List ℤ). running (limit_of limit) (sixty_fourths gap) (sixty_fourths size) l) (drop_of_length-le (units sizes) (subst (λ (n : ℕ). n ≤ i) (sym (length-map sizes sixty_fourths)) h)))) ∙ inv.answer
