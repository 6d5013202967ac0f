-- What the theorems `line_independent` (crates/flex_lines_call) and `pass_independent` (crates/pass) say of a line in
-- two answers. Assumes nothing.
use Rattle.std.specs.Prelude.{◌≡◌, List, ℕ, get_or, ℤ, pos, Float}
use Rattle.lists.specs.ByLine.{part}

-- line j of the one and line j' of the other have the same free space, rounds and targets
pub record SameFlexed (counts counts' : List ℕ) (j j' : ℕ) (targets targets' : List Float) (free free' : List ℤ)
    (rounds rounds' : List ℕ) : Type 0 where
  pub free_same : get_or free j (pos 0) ≡ get_or free' j' (pos 0)
  pub rounds_same : get_or rounds j 0 ≡ get_or rounds' j' 0
  pub targets_same : part counts j targets ≡ part counts' j' targets'
