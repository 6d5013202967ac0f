-- Document 02, Two: "Captures that hold it still open: they are read as max-content with the minimum set to 65,535, which gives one item a line as
-- before, and that sameness is wanted as a proved fact for every accepted item list." So it is for any bytes at all: with min-content kept, and as it is
-- read now, a capture has the same answer, place and cells. Assumes nothing.
use mathlib.Core.Path.{◌≡◌, refl, sym, ◌∙◌, ap, subst}
use mathlib.Core.Bool.{Bool, true, false}
use mathlib.Core.Logic.Iff
use mathlib.Core.Logic.{◌↔◌}
use mathlib.Core.List.{List, []}
use Prim.Native.Nat.{ℕ, ◌≤◌}
use native.Mathlib.Omega.{arith}
use lib.Dec.{ltb}
use lib.ListN.{length, replicate, length-map, length-replicate}
use lib.IntN.{ℤ}
use lib.Ieee.{Float, binary32, of_bits}
use Rattle.grid.specs.Grid.{sixty_fourths}
use Rattle.checks.specs.Domain.{Verdict}
use Rattle.std.specs.Prelude.{Ok, Err}
use Rattle.keywords.specs.declared.AvailableSpace.{AvailableSpace}
use Rattle.keywords.specs.declared.AvailableSpace.TheVariants.{Definite, MinContent, MaxContent}
use Rattle.break_greedy.specs.Breaking.{limit_of, min_content, max_content}
use Rattle.break_greedy.specs.Calls.{breaking_verdict, units}
use Rattle.break_greedy.specs.Calls as calls
use Rattle.balance_rule.specs.Rule.{Balanced}
use Rattle.capture_format.specs.Reading.{Reading, whole, broken, reading, as_written, one_each, as_read}
use Rattle.capture_format.specs.Written.{Numbers, Readable, sizes_said, capture_bytes}
use Rattle.capture_format.specs.declared.Head.{Head}
use Rattle.capture.specs.Answer.{capture_verdict, CaptureDivided, ByVerdict, ByCount, CaptureAnswered}
use Rattle.capture_text.specs.Text.{Reply}
use Rattle.break_greedy.proofs.Accepted.{breakable}
use Rattle.balance_rule.proofs.Ones.{many_ones, min_as_many}
use Rattle.capture_format.proofs.Format.{old_read}
use Rattle.capture_format.proofs.Meaning.{meant, reading_meant}
use Rattle.capture.proofs.Unique.{one_answer}

-- ---- the rule's part, for every accepted list

-- a record of limit kind 1, as it was written
abbrev pub old : Float → ℕ → Head
old gap minimum = record { limit = MinContent; gap = gap; minimum = minimum }

abbrev pub Named : Head → List Float → List ℕ → Type 0
Named head sizes d = Balanced (limit_of head.limit) (sixty_fourths head.gap) (units sizes) head.minimum d

pub same_division : (gap : Float) (minimum : ℕ) (sizes : List Float) (d : List ℕ) → capture_verdict (old gap minimum) sizes ≡ Ok tt
    → Named (old gap minimum) sizes d ↔ Named (one_each gap) sizes d
unfolding limit_of
same_division gap minimum sizes d e =
    let xs = units sizes in
    let lines = (one_each gap).minimum in
    let a = (breakable [] MinContent gap sizes true e).0 in
    let g = a.gap_not_below_0 in
    let enough : length xs ≤ lines = omega (arith, length-map sizes sixty_fourths, a.few) in
    subst (λ (z : ℤ). Balanced min_content z xs minimum d ↔ Balanced max_content z xs lines d) (sym g.1) (min_as_many max_content g.0 xs minimum lines enough d)

-- ---- of whole captures

module _ (before : List ℕ) (r : Reply) (after : List ℕ) where
  renamed : (h k : Head) (sizes : List Float) → ((d : List ℕ) → Named h sizes d → Named k sizes d) → CaptureDivided h sizes before r after → CaptureDivided k sizes before r after
  renamed h k sizes by d = record { division = d.division; balanced = by d.division d.balanced; lines = d.lines; cells = d.cells }

  judged : (gap : Float) (minimum : ℕ) (sizes : List Float) (v : Verdict) → capture_verdict (old gap minimum) sizes ≡ v
      → ByVerdict v (old gap minimum) sizes before r after ↔ ByVerdict v (one_each gap) sizes before r after
  judged gap minimum sizes (Ok tt) e = (
    renamed (old gap minimum) (one_each gap) sizes (λ d. (same_division gap minimum sizes d e).0),
    renamed (one_each gap) (old gap minimum) sizes (λ d. (same_division gap minimum sizes d e).1),
  )
  judged gap minimum sizes (Err why) e = Iff.rfl

  -- they differ in the limit and in the minimum, and the checks take neither a bare limit nor a minimum: one verdict for both
  counted : (many : Bool) (gap : Float) (minimum : ℕ) (sizes : List Float)
      → ByCount many (old gap minimum) sizes before r after ↔ ByCount many (one_each gap) sizes before r after
  unfolding breaking_verdict
  counted true gap minimum sizes = Iff.rfl
  counted false gap minimum sizes = judged gap minimum sizes (capture_verdict (old gap minimum) sizes) refl

  by_space_lem : (space : AvailableSpace) (gap : Float) (minimum : ℕ) (sizes : List Float)
      → (let head : Head = record { limit = space; gap = gap; minimum = minimum } in
      CaptureAnswered (whole head sizes) before r after ↔ CaptureAnswered (whole (as_read head) sizes) before r after)
  by_space_lem MinContent gap minimum sizes = counted (ltb 64 (length sizes)) gap minimum sizes
  by_space_lem MaxContent gap minimum sizes = Iff.rfl
  by_space_lem (Definite width) gap minimum sizes = Iff.rfl

  said : (t : Reading) → CaptureAnswered t before r after ↔ CaptureAnswered (meant as_read t) before r after
  said (whole head sizes) = by_space_lem head.limit head.gap head.minimum sizes
  said (broken place) = Iff.rfl

  -- what is allowed with min-content kept is allowed as it is read now, and nothing else
  pub same_allowed : (l : List ℕ) → CaptureAnswered (reading as_written l) before r after ↔ CaptureAnswered (reading as_read l) before r after
  same_allowed l =
      subst (λ (t : Reading). CaptureAnswered (reading as_written l) before r after ↔ CaptureAnswered t before r after) (sym (reading_meant as_read l)) (said (reading as_written l))

-- so a program before and a program after give one answer and one list of cells
pub same_reply : (l before : List ℕ) (r s : Reply) (a c : List ℕ) → CaptureAnswered (reading as_written l) before r a → CaptureAnswered (reading as_read l) before s c
    → (r ≡ s) × (a ≡ c)
same_reply l before r s a c p q = one_answer before r s a c (reading as_read l) ((same_allowed before r a l).0 p) q

-- ---- one item a line

module _ (before : List ℕ) (k : ℕ) (after : List ℕ) where
  abbrev Ones : List Float → Type 0
  Ones sizes = (k ≡ length sizes) × (after ≡ calls.count_cells (length sizes) (replicate (length sizes) 1) before)

  ones_divided : (gap : Float) (sizes : List Float) → capture_verdict (one_each gap) sizes ≡ Ok tt → CaptureDivided (one_each gap) sizes before (Ok k) after → Ones sizes
  ones_divided gap sizes e d =
      let few = (breakable [] MaxContent gap sizes true e).0.few in
      let n : length (units sizes) ≡ length sizes = length-map sizes sixty_fourths in
      let ones = many_ones _ _ (units sizes) (one_each gap).minimum d.division (omega (arith, n)) d.balanced ∙ ap (λ (m : ℕ). replicate m 1) n in (
        (let same : k ≡ length d.division = cc d.lines in same ∙ ap length ones ∙ length-replicate (length sizes) 1),
        d.cells ∙ ap (λ (l : List ℕ). calls.count_cells (length sizes) l before) ones,
      )

  ones_judged : (v : Verdict) (gap : Float) (sizes : List Float) → capture_verdict (one_each gap) sizes ≡ v → ByVerdict v (one_each gap) sizes before (Ok k) after → Ones sizes
  ones_judged (Ok tt) gap sizes e d = ones_divided gap sizes e d
  ones_judged (Err why) gap sizes e (told, kept) = let z : ◌≡◌ {A = ℕ} 0 1 = cc in absurd (omega arith)

  ones_counted : (many : Bool) (gap : Float) (sizes : List Float) → ByCount many (one_each gap) sizes before (Ok k) after → Ones sizes
  ones_counted true gap sizes (told, kept) = let z : ◌≡◌ {A = ℕ} 0 1 = cc in absurd (omega arith)
  ones_counted false gap sizes d = ones_judged (capture_verdict (one_each gap) sizes) gap sizes refl d

  -- an old capture that is accepted has as many lines as items, of one item each
  pub one_a_line : (c : Numbers) → Readable c → c.limit-kind ≡ 1 → CaptureAnswered (reading as_read (capture_bytes c)) before (Ok k) after → Ones (sizes_said c)
  one_a_line c fit one a =
      ones_counted (ltb 64 (length (sizes_said c))) (of_bits binary32 c.gap) (sizes_said c)
      (subst (λ (t : Reading). CaptureAnswered t before (Ok k) after) (old_read c fit one) a)
