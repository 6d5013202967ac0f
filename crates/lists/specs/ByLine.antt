-- Lists by item, line by line: the range of each line, by the items that each line has. Assumes nothing.
use Rattle.std.specs.Prelude.{◌≡◌, Bool, true, ◌&&◌, List, ℕ, zero, suc, eqb, leb, length, get_or, take, drop}
use Rattle.lists.specs.Cells.{sum_up_to}

-- a line's first item: the items of the lines before it
abbrev pub line_start : List ℕ → ℕ → ℕ
line_start counts j = sum_up_to (λ i. get_or counts i 0) j

-- its part of a list by item
abbrev pub part : {A : Type 0} → List ℕ → ℕ → List A → List A
part counts j l = take (get_or counts j 0) (drop (line_start counts j) l)

-- none of the first k counts is 0
unfoldable pub positive : List ℕ → ℕ → Bool
positive counts zero = true
positive counts (suc k) = leb 1 (get_or counts k 0) && positive counts k

-- the counts are a division of n items: "positive counts with sum n"
abbrev pub divides : List ℕ → ℕ → Bool
divides counts n = eqb (line_start counts (length counts)) n && positive counts (length counts)

-- the lines have n items in all
abbrev pub Division : List ℕ → ℕ → Type 0
Division counts n = line_start counts (length counts) ≡ n
