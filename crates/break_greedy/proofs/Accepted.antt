-- The checks of breaking: the least of the marks that the calls take is document 01's order of checks on their input, and what a pass says.
-- By the laws of refusals, part by part: codes, limit, gap, items. Assumes nothing.
use mathlib.Core.Path.{◌≡◌, refl, sym, ap, ap₂, ◌∙◌}
use mathlib.Core.Bool.{Bool, true, false}
use mathlib.Core.List.{List, [], ◌∷◌, ◌++◌}
use Prim.Native.Nat.{ℕ, ◌+◌, ◌≤◌, min, zero-le}
use native.Mathlib.Omega.{arith}
use lib.Dec.{leb, ltb}
use lib.ListN.{length, get_or}
use lib.IntN.{pos}
use lib.Ieee.{Float, nan}
use borrow.Author.Tests.{le-ltb, ltb-false, leb-true, leb-false}
use Rattle.grid.specs.Grid.{sixty_fourths}
use Rattle.grid.specs.Values.{Length}
use Rattle.checks.specs.declared.Kind.TheVariants as kind
use Rattle.checks.specs.declared.Refusal.{Refusal}
use Rattle.checks.specs.Domain.{Number, float, code, not_finite, off_grid, out_of_range, any, check, checked, shape, summed, then, or_else, Verdict}
use Rattle.checks.specs.Marks.{mark, least_of, least_up_to, judged, Lengths, AllFine, SoundInput}
use Rattle.checks.proofs.Order.{least_ext}
use Rattle.checks.proofs.Checks.{judged-checked, least_append, least_one, then_passed, shape_passed, summed_passed, accepted, fine-append, fine-length, fine_size, fine_code}
use Rattle.keywords.specs.declared.AvailableSpace.{AvailableSpace}
use Rattle.keywords.specs.declared.AvailableSpace.TheVariants.{Definite, MinContent, MaxContent}
use Rattle.break_limit.specs.Limit.{space_numbers}
use Rattle.break_greedy.specs.Calls.{breaking_input, sizes_sum, breaking_verdict}
use Rattle.break_greedy.specs.Steps.{LengthLimit, Breakable}
use Rattle.std.specs.declared.result.Result.TheVariants.{Ok, Err}

-- ---- the marks are the checks

-- where a check has refused or passed, what comes of the checks after it
pub then_refused : {v : Verdict} (rest : Verdict) {why : Refusal} → v ≡ Err why → then v rest ≡ v
then_refused rest e = ap (λ (v : Verdict). then v rest) e ∙ sym e

pub then_rest : {v : Verdict} (rest : Verdict) → v ≡ Ok tt → then v rest ≡ rest
then_rest rest e = ap (λ (v : Verdict). then v rest) e

-- the mark of a breaking call: codes with this least mark, the limit and the gap, and then the items
abbrev pub breaking_mark : ℕ → AvailableSpace → Float → List Float → ℕ
breaking_mark codes limit gap sizes =
    min (min codes (min (least_of (space_numbers limit) 0) (mark (float kind.Size gap) 0))) (least_up_to (λ i. mark (float kind.Length (get_or sizes i nan)) (i + 1)) (length sizes))

module _ (codes : List Number) (limit : AvailableSpace) (gap : Float) (sizes : List Float) where
  pub breaking_checked : length sizes ≤ 1024 → (rest : Verdict) → then (judged (breaking_mark (least_of codes 0) limit gap sizes)) rest ≡ checked (breaking_input codes limit gap sizes) rest
  breaking_checked h rest =
      let s = space_numbers limit in
      let g = float kind.Size gap in
      ap (λ (m : ℕ). then (judged m) rest)
      (ap₂ min
      (ap (min (least_of codes 0)) (ap (min (least_of s 0)) (sym (least_one g 0 zero-le)) ∙ sym (least_append s (g ∷ []) 0)) ∙ sym (least_append codes (s ++ (g ∷ [])) 0))
      (least_ext (λ i. mark (float kind.Length (get_or sizes i nan)) (i + 1)) (λ i. least_of (float kind.Length (get_or sizes i nan) ∷ []) (i + 1)) (length sizes) (λ i l. sym (least_one (float kind.Length (get_or sizes i nan)) (i + 1) (omega arith)))))
      ∙ judged-checked (breaking_input codes limit gap sizes) h rest

  -- ---- what a pass says

  fine-limit : (limit : AvailableSpace) → AllFine (space_numbers limit) → LengthLimit limit
  fine-limit (Definite x) f = fine-length f.0
  fine-limit MinContent f = tt
  fine-limit MaxContent f = tt

  -- what breaking asks of its numbers, but for their sum
  pub record Lawful : Type 0 where
    pub each : Lengths sizes
    pub spacing : Length gap
    pub gap_not_below_0 : (z : ℕ) × (sixty_fourths gap ≡ pos z)
    pub limit_is : LengthLimit limit

  pub lawful : SoundInput (breaking_input codes limit gap sizes) → Lawful
  lawful s =
      let r = fine-append (space_numbers limit) (float kind.Size gap ∷ []) (fine-append codes (space_numbers limit ++ (float kind.Size gap ∷ [])) s.container).1 in
      let g = fine_size r.1.0 in
      record { each = record { each = λ i h. fine-length (s.items i h).0 }; spacing = g.0; gap_not_below_0 = g.1; limit_is = fine-limit limit r.0 }

  pub breakable : (room : Bool) → breaking_verdict codes limit gap sizes room ≡ Ok tt → Breakable limit gap sizes × (room ≡ true)
  unfolding breaking_verdict
  breakable room e =
      let p = then_passed (shape (length sizes) room) _ e in
      let q = shape_passed (length sizes) room p.0 in
      let a = accepted (breaking_input codes limit gap sizes) (summed (sizes_sum gap sizes)) p.1 in
      let l = lawful a.0 in
      (record { few = q.0; each = l.each; spacing = l.spacing; gap_not_below_0 = l.gap_not_below_0; limit_is = l.limit_is; small = summed_passed (sizes_sum gap sizes) a.1 }, q.1)

  -- the verdict, once the shape has passed, from the mark
  pub verdict_is : (room : Bool) (m : ℕ) → shape (length sizes) room ≡ Ok tt → m ≡ breaking_mark (least_of codes 0) limit gap sizes
      → then (judged m) (summed (sizes_sum gap sizes)) ≡ breaking_verdict codes limit gap sizes room
  unfolding breaking_verdict
  verdict_is room m p e =
      ap (λ (n : ℕ). then (judged n) (summed (sizes_sum gap sizes))) e
      ∙ breaking_checked (shape_passed (length sizes) room p).0 (summed (sizes_sum gap sizes))
      ∙ sym (ap (λ (v : Verdict). then v (checked (breaking_input codes limit gap sizes) (summed (sizes_sum gap sizes)))) p)

  -- ---- a code before the limit

  -- one that passes changes nothing
  pub code_passes : (most c : ℕ) (room : Bool) → leb c most ≡ true → breaking_verdict (code most c ∷ codes) limit gap sizes room ≡ breaking_verdict codes limit gap sizes room
  unfolding breaking_verdict check any not_finite off_grid out_of_range
  code_passes most c room e = rw (le-ltb most c (leb-true c most e))

  -- one that fails always refuses
  pub code_fails : (most c : ℕ) (room : Bool) → leb c most ≡ false → breaking_verdict (code most c ∷ codes) limit gap sizes room ≡ Ok tt → ⊥
  unfolding breaking_verdict
  code_fails most c room f e =
      let p = then_passed (shape (length sizes) room) _ e in
      let a = accepted (breaking_input (code most c ∷ codes) limit gap sizes) (summed (sizes_sum gap sizes)) p.1 in
      let h = fine_code a.0.container.0 in
      absurd (omega (arith, leb-false c most f))

-- ---- a mark that passes

no_mark : (n : ℕ) → judged n ≡ Ok tt → 6144 ≤ n
unfolding judged
no_mark n e = ltb-false n 6144 (last _ _ _ (ltb n 2048) (ltb n 4096) (ltb n 6144) e)
  where
    last : (x y z : Refusal) (a b d : Bool) → or_else a (Err x) (or_else b (Err y) (or_else d (Err z) (Ok tt))) ≡ Ok tt → d ≡ false
    last x y z a b false e = refl
    last x y z true b true e = let no_way : ◌≡◌ {A = ℕ} 0 1 = cc in absurd (omega arith)
    last x y z false true true e = let no_way : ◌≡◌ {A = ℕ} 0 1 = cc in absurd (omega arith)
    last x y z false false true e = let no_way : ◌≡◌ {A = ℕ} 0 1 = cc in absurd (omega arith)

mark-none : (n : ℕ) → 6144 ≤ n → judged n ≡ Ok tt
unfolding judged
mark-none n h = simp (le-ltb n 2048 (omega arith), le-ltb n 4096 (omega arith), le-ltb n 6144 h)

-- whatever the codes were, the other numbers are fine
pub passed_lawful : (codes : ℕ) (limit : AvailableSpace) (gap : Float) (sizes : List Float) → length sizes ≤ 1024 → judged (breaking_mark codes limit gap sizes) ≡ Ok tt → Lawful [] limit gap sizes
unfolding least_of
passed_lawful codes limit gap sizes h e =
    let n : 6144 ≤ breaking_mark codes limit gap sizes = no_mark (breaking_mark codes limit gap sizes) e in
    let p = mark-none (breaking_mark 6144 limit gap sizes) (omega arith) in
    lawful [] limit gap sizes (accepted (breaking_input [] limit gap sizes) (Ok tt) (sym (breaking_checked [] limit gap sizes h (Ok tt)) ∙ ap (λ (v : Verdict). then v (Ok tt)) p)).0
