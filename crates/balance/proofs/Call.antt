-- The whole call: its verdict, the cells it leaves, and that its contract leaves no choice. Assumes nothing.
use mathlib.Core.Path.{◌≡◌, refl, sym, ap, subst, ◌∙◌}
use mathlib.Core.Bool.{Bool, ◌&&◌}
use mathlib.Core.Logic.{◌⊎◌, inl, inr}
use mathlib.Core.List.{List, [], ◌∷◌, map}
use Prim.Native.Nat.{ℕ, ◌+◌, ◌*◌, ◌≤◌, ◌<◌, zero-le}
use native.Mathlib.Omega.{arith}
use borrow.Author.Tests.{lt-ltb}
use lib.Dec.{T, leb, leb→le}
use lib.ListN.{length, drop, length-map, length-drop}
use lib.IntN.{ℤ}
use lib.Ieee.{Float, binary64, of_bits}
use mir.Facts.{and_yes}
use Rattle.grid.specs.Grid.{sixty_fourths}
use Rattle.checks.specs.Domain.{Number, Verdict, Answer, done}
use Rattle.checks.specs.declared.Refusal.{Refusal}
use Rattle.std.specs.declared.result.Result.TheVariants.{Ok, Err}
use Rattle.checks.proofs.Verdicts.{not_both, same_why}
use Rattle.keywords.specs.declared.AvailableSpace.{AvailableSpace}
use Rattle.break_greedy.specs.Breaking.{Limit, limit_of}
use Rattle.break_greedy.specs.Calls.{breaking_verdict, units}
use Rattle.lists.specs.Cells.{filled}
use Rattle.break_greedy.specs.Steps.{Breakable}
use Rattle.break_greedy.proofs.Accepted.{breakable}
use Rattle.balance_rule.specs.Rule.{floored, Valid}
use Rattle.balance.specs.Calls.{BreakLent, break_lent, has_room, balanced_verdict, worked, Divides, BalancedCall}
use Rattle.balance.specs.Parts.{Roomy, Searched}
use Rattle.balance.proofs.Cells.{filled_left}
use Rattle.balance_rule.proofs.DpLaws.{lt_or_ge}
use Rattle.balance_rule.proofs.Unique.{balanced_one}

-- ---- room
room_of : (n : ℕ) (l : BreakLent) → T (has_room n l) → Roomy n l
room_of n l t =
    let p = and_yes (leb n (length l.counts)) (leb (n * n + 3 * n) (length l.work) && leb (3 * n) (length l.sums)) t in
    let q = and_yes (leb (n * n + 3 * n) (length l.work)) (leb (3 * n) (length l.sums)) p.1 in
    (leb→le n (length l.counts) p.0, leb→le (n * n + 3 * n) (length l.work) q.0, leb→le (3 * n) (length l.sums) q.1)

-- ---- the cells
module _ (limit : AvailableSpace) (gap : Float) (minimum : ℕ) (sizes : List Float) where
  -- after the search the rest of the named work cells is cleared
  pub divides : (b a : BreakLent) (r : ℕ) (work : List ℕ) (sums : List Float) → Searched limit gap minimum sizes b r a
      → work ≡ filled 0 (length sizes * length sizes) (length sizes * length sizes + 3 * length sizes) a.work
      → sums ≡ filled (of_bits binary64 0) (length sizes) (3 * length sizes) a.sums
      → Divides limit gap minimum sizes b r (break_lent a.counts work sums)
  divides b a r work sums S w s =
      let n : ℕ = length sizes in
      let q = w ∙ filled_left 0 (n * n) (n * n + 3 * n) b.work a.work (omega arith) S.work_left in
      let t = s ∙ filled_left (of_bits binary64 0) n (3 * n) b.sums a.sums (omega arith) S.sums_left in
      record { division = S.division; balanced = S.balanced; lines_are = S.lines_are; cells = rw (S.counts_are, q, t) }

-- ---- no more lines than items
valid_few : (limit : Limit) (gap : ℤ) (xs : List ℤ) (d : List ℕ) → Valid limit gap xs d → length d ≤ length xs
valid_few limit gap xs [] v = zero-le
valid_few limit gap xs (c ∷ d) (l, v) = omega (arith, valid_few limit gap (drop c xs) d v, length-drop c xs, l.positive, l.enough)

pub lines_few : (limit : AvailableSpace) (gap : Float) (minimum : ℕ) (sizes : List Float) (b a : BreakLent) (lines : ℕ) → Divides limit gap minimum sizes b lines a → lines ≤ length sizes
lines_few limit gap minimum sizes b a lines D =
    omega (
      arith,
      D.lines_are,
      valid_few (limit_of limit) (sixty_fourths gap) (map floored (units sizes)) D.division D.balanced.valid,
      length-map (units sizes) floored,
      length-map sizes sixty_fourths,
    )

-- ---- the verdict: whether more than 1,024 items have room does not matter
pub verdict_is : (codes : List Number) (limit : AvailableSpace) (gap : Float) (sizes : List Float) (b : BreakLent) (room : Bool) → (length sizes ≤ 1024 → room ≡ has_room (length sizes) b)
    → breaking_verdict codes limit gap sizes room ≡ breaking_verdict codes limit gap sizes (has_room (length sizes) b)
unfolding breaking_verdict
verdict_is codes limit gap sizes b room h = go (lt_or_ge 1024 (length sizes))
  where
    go : (1024 < length sizes) ⊎ (length sizes ≤ 1024) → breaking_verdict codes limit gap sizes room ≡ breaking_verdict codes limit gap sizes (has_room (length sizes) b)
    go (inr p) = ap (breaking_verdict codes limit gap sizes) (h p)
    go (inl p) = simp (lt-ltb 1024 (length sizes) p)

pub given : (codes : List Number) (limit : AvailableSpace) (gap : Float) (sizes : List Float) (b : BreakLent) → balanced_verdict codes limit gap sizes b ≡ Ok tt → Breakable limit gap sizes × Roomy (length sizes) b
given codes limit gap sizes b e =
    let p = breakable codes limit gap sizes (has_room (length sizes) b) e in
    (p.0, room_of (length sizes) b (subst T (sym p.1) tt))

-- ---- the contract, by the verdict
module _ (limit : AvailableSpace) (gap : Float) (minimum : ℕ) (sizes : List Float) (b : BreakLent) where
  pub divides-one : (k j : ℕ) (a c : BreakLent) → Divides limit gap minimum sizes b k a → Divides limit gap minimum sizes b j c → (k ≡ j) × (a ≡ c)
  divides-one k j a c p q =
      let d : p.division ≡ q.division = balanced_one (limit_of limit) (sixty_fourths gap) (units sizes) minimum p.division q.division p.balanced q.balanced in
      (p.lines_are ∙ ap length d ∙ sym q.lines_are, p.cells ∙ ap (λ (l : List ℕ). worked (length sizes) l b) d ∙ sym q.cells)

module _ (codes : List Number) (limit : AvailableSpace) (gap : Float) (minimum : ℕ) (sizes : List Float) (b : BreakLent) where
  pub call_refused : (why : Refusal) → balanced_verdict codes limit gap sizes b ≡ Err why → BalancedCall codes limit gap minimum sizes b (Err why) b
  call_refused why e = record {
    refused = λ other f. (ap Err (same_why e f), refl);
    accepted = λ f. absurd (not_both f e);
  }

  pub call_accepted : (lines : ℕ) (a : BreakLent) → balanced_verdict codes limit gap sizes b ≡ Ok tt → Divides limit gap minimum sizes b lines a → BalancedCall codes limit gap minimum sizes b (done lines 0) a
  call_accepted lines a e D = record {
    refused = λ why f. absurd (not_both e f);
    accepted = λ _. (lines, refl, D);
  }

  -- ANY TWO RESULTS THAT THE CONTRACT ALLOWS ARE EQUAL
  pub no_choice : (r s : Answer) (a c : BreakLent) → BalancedCall codes limit gap minimum sizes b r a → BalancedCall codes limit gap minimum sizes b s c → (r ≡ s) × (a ≡ c)
  no_choice r s a c p q = go (balanced_verdict codes limit gap sizes b) refl
    where
      go : (v : Verdict) → balanced_verdict codes limit gap sizes b ≡ v → (r ≡ s) × (a ≡ c)
      go (Err why) e =
          let x = p.refused why e in
          let y = q.refused why e in
          (x.0 ∙ sym y.0, x.1 ∙ sym y.1)
      go (Ok tt) e =
          let x = p.accepted e in
          let y = q.accepted e in
          let o = divides-one limit gap minimum sizes b x.0 y.0 a c x.2 y.2 in
          (x.1 ∙ ap (λ (k : ℕ). done k 0) o.0 ∙ sym y.1, o.1)
