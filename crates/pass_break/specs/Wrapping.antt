-- The lines of a container by its wrap mode (document 01, "Breaking"), in the lists that balanced breaking is lent.
-- Definitions only. Assumes nothing.
use Rattle.std.specs.Prelude.{◌≡◌, List, [], ◌∷◌, ℕ, zero, suc, length, Float}
use Rattle.grid.specs.Grid.{sixty_fourths}
use Rattle.keywords.specs.declared.AvailableSpace.{AvailableSpace}
use Rattle.break_greedy.specs.Breaking.{limit_of, greedy}
use Rattle.break_greedy.specs.Calls.{units, count_cells}
use Rattle.balance_rule.specs.Rule as rule
use Rattle.balance.specs.Calls.{BreakLent, break_lent, worked}
use Rattle.keywords.specs.declared.Mode.{Mode}
use Rattle.keywords.specs.declared.Mode.TheVariants.{Single, Greedy, Balanced}

-- "n = 0 gives no lines"; "a single-line container is one line whatever the limit"
abbrev pub one_line : ℕ → List ℕ
one_line zero = []
one_line (suc n) = suc n ∷ []

-- THE LINES, a count for each
abbrev pub Lines : Mode → AvailableSpace → Float → ℕ → List Float → List ℕ → Type 0
Lines Single limit gap minimum sizes lines = lines ≡ one_line (length sizes)
Lines Greedy limit gap minimum sizes lines = lines ≡ greedy (limit_of limit) (sixty_fourths gap) (units sizes)
Lines Balanced limit gap minimum sizes lines =
    rule.Balanced (limit_of limit) (sixty_fourths gap) (units sizes) minimum lines

-- "After acceptance those work cells are zero, and all cells past the named ones are unchanged."
abbrev pub listed : Mode → ℕ → List ℕ → BreakLent → BreakLent
listed Single n lines b = break_lent (count_cells n lines b.counts) b.work b.sums
listed Greedy n lines b = break_lent (count_cells n lines b.counts) b.work b.sums
listed Balanced n lines b = worked n lines b

-- BREAKING BY WRAP MODE: the answer is the number of the lines, and the lists hold their counts
pub record Wrapped (mode : Mode) (limit : AvailableSpace) (gap : Float) (minimum : ℕ) (sizes : List Float)
    (before : BreakLent) (r : ℕ) (after : BreakLent) : Type 0 where
  pub lines : List ℕ
  pub lines_are : Lines mode limit gap minimum sizes lines
  pub number : r ≡ length lines
  pub cells : after ≡ listed mode (length sizes) lines before
