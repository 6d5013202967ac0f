-- The balanced call: what it takes, checks and answers (document 01, "Domain and refusal numbers" and "Breaking").
-- Assumes nothing.
use Rattle.std.specs.Prelude.{◌≡◌, Bool, ◌&&◌, List, ◌++◌, ℕ, ◌+◌, ◌*◌, leb, length, drop, replicate, Float}
use Rattle.std.specs.declared.result.Result.TheVariants.{Ok, Err}
use Rattle.std.specs.Float.{binary64}
use Rattle.std.specs.Float.Ieee.{of_bits}
use Rattle.grid.specs.Grid.{sixty_fourths}
use Rattle.checks.specs.Domain.{Number, Verdict, Answer, done}
use Rattle.checks.specs.Shapes.{work_room}
use Rattle.checks.specs.declared.Refusal.{Refusal}
use Rattle.keywords.specs.declared.AvailableSpace.{AvailableSpace}
use Rattle.break_greedy.specs.Breaking.{limit_of}
use Rattle.break_greedy.specs.Calls.{breaking_verdict, units, count_cells}
use Rattle.balance_rule.specs.Rule.{Balanced}

-- the lists that the call is lent: the counts by line, and the cells to work in
pub record BreakLent : Type 0 where
  pub counts : List ℕ
  pub work : List ℕ
  pub sums : List Float

abbrev pub break_lent : List ℕ → List ℕ → List Float → BreakLent
break_lent counts work sums = record { counts = counts; work = work; sums = sums }

-- "Room for n items: n cells for each answer list ..; balanced breaking also n·n+3n u32 cells and 3n f64 cells."
abbrev pub room_for : ℕ → ℕ → ℕ → ℕ → Bool
room_for n counts work sums = leb n counts && work_room n work sums

abbrev pub has_room : ℕ → BreakLent → Bool
has_room n l = room_for n (length l.counts) (length l.work) (length l.sums)

abbrev pub balanced_verdict : List Number → AvailableSpace → Float → List Float → BreakLent → Verdict
balanced_verdict codes limit gap sizes before = breaking_verdict codes limit gap sizes (has_room (length sizes) before)

-- "After acceptance those work cells are zero, and all cells past the named ones are unchanged."
abbrev pub zeroed : {A : Type 0} → A → ℕ → List A → List A
zeroed zero n before = replicate n zero ++ drop n before

abbrev pub worked : ℕ → List ℕ → BreakLent → BreakLent
worked n lines b =
    break_lent (count_cells n lines b.counts) (zeroed 0 (n * n + 3 * n) b.work)
    (zeroed (of_bits binary64 0) (3 * n) b.sums)

-- the balanced division, with the lent lists left as they are to be
pub record Divides (limit : AvailableSpace) (gap : Float) (minimum : ℕ) (sizes : List Float) (before : BreakLent)
    (lines : ℕ) (after : BreakLent) : Type 0 where
  pub division : List ℕ
  pub balanced : Balanced (limit_of limit) (sixty_fourths gap) (units sizes) minimum division
  pub lines_are : lines ≡ length division
  pub cells : after ≡ worked (length sizes) division before

-- THE CALL: it refuses by the checks and changes nothing, or it answers with the number of lines and leaves their
-- counts. The codes are those that came before the limit
pub record BalancedCall (codes : List Number) (limit : AvailableSpace) (gap : Float) (minimum : ℕ) (sizes : List Float)
    (before : BreakLent) (r : Answer) (after : BreakLent) : Type 0 where
  pub refused : (why : Refusal) → balanced_verdict codes limit gap sizes before ≡ Err why
      → (r ≡ Err why) × (after ≡ before)
  pub accepted : balanced_verdict codes limit gap sizes before ≡ Ok tt → (lines : ℕ) × (r ≡ done lines 0)
      × Divides limit gap minimum sizes before lines after
