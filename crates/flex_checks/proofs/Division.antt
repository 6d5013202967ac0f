-- What the checks of a call over many lines show: those of one line, and one number more, the division. Assumes nothing.
use mathlib.Core.Path.{◌≡◌, refl, sym, ap, ap₂, ◌∙◌}
use mathlib.Core.Bool.{Bool, true, false, cond}
use mathlib.Core.List.{List, [], ◌∷◌}
use Prim.Native.Nat.{ℕ, ◌+◌, ◌≤◌, ◌<◌, min, zero-le}
use native.Mathlib.Omega.{arith}
use lib.ListN.{length, get_or}
use lib.Ieee.{Float}
use Rattle.checks.specs.Domain.{Number, shape}
use Rattle.checks.specs.Marks.{mark, least_of, least_up_to, least_mark, Fine}
use Rattle.std.specs.declared.result.Result.TheVariants.{Ok}
use Rattle.checks.proofs.Checks.{then_passed, shape_passed, fine_code, least_append, least_one}
use Rattle.flex.specs.Items.{Lists, count}
use Rattle.flex_checks.specs.Input.{input_of, flex_shape}
use Rattle.flex.specs.Accepted.{Even}
use Rattle.lists.specs.ByLine.{line_start, divides}
use Rattle.flex_lines.proofs.Counting.{divides_so}
use Rattle.flex_checks.specs.Counts.{lines_shape, division, lines_input}
use Rattle.flex_checks.proofs.Accept.{even_of}

-- ---- the division as a number

fits : (b : Bool) → cond b 0 1 ≤ 0 → b ≡ true
fits true h = refl
fits false h = absurd (omega arith)

pub division-fine : (counts : List ℕ) (n : ℕ) → Fine (division counts n) → (line_start counts (length counts) ≡ n) × ((j : ℕ) → j < length counts → 0 < get_or counts j 0)
division-fine counts n f = divides_so counts n (fits (divides counts n) (fine_code f))

-- ---- all marks, and the lengths

module _ (inner gap : Float) (counts : List ℕ) (ls : Lists) where
  -- one mark more
  pub lines_mark : (a b r : ℕ) → a ≡ least_mark (input_of inner gap ls) → b ≡ mark (division counts (count ls)) 0 → r ≡ min a b → r ≡ least_mark (lines_input inner gap counts ls)
  lines_mark a b r p q e =
      let d : List Number = division counts (count ls) ∷ [] in
      e ∙ ap₂ min p (q ∙ sym (least_one (division counts (count ls)) 0 zero-le))
      ∙ swap (least_of (input_of inner gap ls).container 0) (least_up_to (λ i. least_of ((input_of inner gap ls).item i) (i + 1)) (count ls)) (least_of d 0)
      ∙ ap (λ (m : ℕ). min m (least_up_to (λ i. least_of ((input_of inner gap ls).item i) (i + 1)) (count ls))) (sym (least_append (input_of inner gap ls).container d 0))
    where
      swap : (a b c : ℕ) → min (min a b) c ≡ min (min a c) b
      swap a b c = omega arith

pub shape_of : (counts : List ℕ) (ls : Lists) (room : ℕ) → lines_shape counts ls room ≡ Ok tt → (length counts ≤ 1024) × Even ls × (count ls ≤ room)
shape_of counts ls room h =
    let p = then_passed (shape (length counts) true) (flex_shape ls room) h in
    let e = even_of ls room p.1 in
    ((shape_passed (length counts) true p.0).0, e.0, e.1)
