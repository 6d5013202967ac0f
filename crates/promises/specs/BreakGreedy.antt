-- The theorems of greedy breaking that docs/PROMISES.md names. No contract cites it; proofs/BreakGreedy.antt fills it.
-- Assumes nothing.
use Rattle.std.specs.Prelude.{◌≡◌, List, [], ◌∷◌, ℕ, suc, ◌<◌, length, get_or, replicate, ℤ, Float}
use Rattle.checks.specs.Domain.{Number, Answer}
use Rattle.keywords.specs.declared.AvailableSpace.{AvailableSpace}
use Rattle.break_greedy.specs.Breaking.{Limit, min_content, max_content, greedy}
use Rattle.break_greedy.specs.Calls.{greedy_result, greedy_call}
use Rattle.break_greedy.proofs.Lines.{total, AllLines}

pub record Promised : Type 0 where
  -- the contract of `greedy` leaves no choice
  pub one-greedy : (codes : List Number) (limit : AvailableSpace) (gap : Float) (sizes : List Float) (before : List ℕ)
      (r s : Answer) (after later : List ℕ) → greedy_result r after ≡ greedy_call codes limit gap sizes before
      → greedy_result s later ≡ greedy_call codes limit gap sizes before → (r ≡ s) × (after ≡ later)
  -- the counts sum to the number of items
  pub greedy-total : (limit : Limit) (gap : ℤ) (xs : List ℤ) → total (greedy limit gap xs) ≡ length xs
  -- and none is 0
  pub greedy-positive : (limit : Limit) (gap : ℤ) (xs : List ℤ) (i : ℕ) → i < length (greedy limit gap xs)
      → 0 < get_or (greedy limit gap xs) i 0
  -- "min-content gives one item to each line"
  pub greedy-min : (gap : ℤ) (xs : List ℤ) → greedy min_content gap xs ≡ replicate (length xs) 1
  -- max-content gives one line
  pub greedy-max : (gap x : ℤ) (l : List ℤ) → greedy max_content gap (x ∷ l) ≡ suc (length l) ∷ []
  -- each line is full
  pub greedy_lines : (limit : Limit) (gap : ℤ) (xs : List ℤ) → AllLines limit gap xs (greedy limit gap xs)
  -- and no other counts have only full lines
  pub lines_greedy : (limit : Limit) (gap : ℤ) (xs : List ℤ) (counts : List ℕ) → AllLines limit gap xs counts
      → counts ≡ greedy limit gap xs
