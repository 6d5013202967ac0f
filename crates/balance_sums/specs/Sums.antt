-- Sums of items and sizes of lines, as the machine computes them, and the end of a line in a table. Only contracts of
-- parts cite it. Assumes nothing.
use Rattle.std.specs.Prelude.{List, false, ℕ, zero, suc, ◌+◌, pos, get_or, Float}
use Rattle.std.specs.Float.{nan, fin, binary64}
use Rattle.std.specs.Float.Ieee.{add, sub}

-- the sum of the items before s, each with its gap
abbrev pub before_f : List Float → ℕ → Float
before_f sums zero = fin false 0 (pos 0)
before_f sums (suc i) = get_or sums i nan

-- the size of the line of the items from s to e
abbrev pub size_f : List Float → Float → ℕ → ℕ → Float
size_f sums gap s e = sub binary64 (sub binary64 (get_or sums e nan) (before_f sums s)) gap

-- the sum before a line, with one gap: the sum up to the line's end less this is the line's size
abbrev pub base_f : List Float → Float → ℕ → Float
base_f sums gap s = add binary64 (before_f sums s) gap

-- the first item past the line that begins at s, from a table of last items
abbrev pub ends : List ℕ → ℕ → ℕ
ends fit s = get_or fit s 0 + 1
