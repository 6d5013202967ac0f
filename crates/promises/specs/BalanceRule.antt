-- The theorems of balanced breaking's rule that docs/PROMISES.md names. No contract cites it; proofs/BalanceRule.antt
-- fills it. Assumes nothing.
use Rattle.std.specs.Prelude.{◌≡◌, ◌↔◌, List, [], map, ℕ, ◌≤◌, ◌^◌, length, replicate, ℤ, pos, Float}
use Rattle.grid.specs.Grid.{sixty_fourths}
use Rattle.break_greedy.specs.Breaking.{Limit, min_content}
use Rattle.break_greedy.specs.Calls.{sizes_sum, units}
use Rattle.balance_rule.specs.Rule.{floored, score, Balanced}

pub record Promised : Type 0 where
  -- at most one division is `Balanced`, for any limit, gap, list and minimum
  pub balanced_one : (limit : Limit) (gap : ℤ) (sizes : List ℤ) (minimum : ℕ) (d e : List ℕ)
      → Balanced limit gap sizes minimum d → Balanced limit gap sizes minimum e → d ≡ e
  -- and one is, for a gap from 0 up
  pub balanced_some : (limit : Limit) (gap : ℕ) (sizes : List ℤ) (minimum : ℕ)
      → (d : List ℕ) × Balanced limit (pos gap) sizes minimum d
  -- no items make no lines
  pub none_balanced : (limit : Limit) (gap : ℤ) (minimum : ℕ) → Balanced limit gap [] minimum []
  -- under min-content every line has one item
  pub min_content_ones : (gap : ℤ) (sizes : List ℤ) (minimum : ℕ) (d : List ℕ)
      → Balanced min_content gap sizes minimum d → d ≡ replicate (length sizes) 1
  -- so it is under any limit with a minimum of n lines or more ..
  pub many_ones : (limit : Limit) (gap : ℤ) (sizes : List ℤ) (many : ℕ) (d : List ℕ) → length sizes ≤ many
      → Balanced limit gap sizes many d → d ≡ replicate (length sizes) 1
  -- .. and with a gap from 0 up both name the same division
  pub min_as_many : (limit : Limit) (gap : ℕ) (sizes : List ℤ) (minimum many : ℕ) → length sizes ≤ many → (d : List ℕ)
      → Balanced min_content (pos gap) sizes minimum d ↔ Balanced limit (pos gap) sizes many d
  -- "totals stay below 2^53": where check 6 passes, the total of any division is at most 2^48, so exact in an f64
  pub totals_exact : (gap : Float) (sizes : List Float) (d : List ℕ) → sizes_sum gap sizes ≤ 16777216
      → score (sixty_fourths gap) (map floored (units sizes)) d ≤ 2 ^ 48
