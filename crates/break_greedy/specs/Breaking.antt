-- Document 01, "Breaking": what fits, a line's size, and greedy breaking, over whole sixty-fourths. Definitions only.
-- Assumes nothing.
use Rattle.std.specs.Prelude.{Bool, true, false, cond, List, [], ◌∷◌, ◌++◌, ℕ, zero, suc, length, drop, ℤ, pos, ◌+ℤ◌}
use Rattle.std.specs.Int.Signed.{le_z}
use Rattle.grid.specs.Grid.{sixty_fourths}
use Rattle.keywords.specs.declared.AvailableSpace.{AvailableSpace}
use Rattle.keywords.specs.declared.AvailableSpace.TheVariants.{Definite, MinContent, MaxContent}

-- "Available space is min-content, max-content or a definite number of pixels": the same in sixty-fourths
pub data Limit : Type 0 where
  min_content : Limit
  max_content : Limit
  definite : ℤ → Limit

unfoldable pub limit_of : AvailableSpace → Limit
limit_of (Definite x) = definite (sixty_fourths x)
limit_of MinContent = min_content
limit_of MaxContent = max_content

-- "It fits when that is at most the limit; max-content always fits." "min-content gives one item to each line": no more
-- than one fits.
unfoldable pub fits : Limit → ℤ → Bool
fits min_content size = false
fits max_content size = true
fits (definite limit) size = le_z size limit

-- "A line's size is its items' outer main sizes plus one gap between neighbours."
unfoldable pub line_size : ℤ → List ℤ → ℤ
line_size gap [] = pos 0
line_size gap (x ∷ []) = x
line_size gap (x ∷ (y ∷ r)) = x +ℤ (gap +ℤ line_size gap (y ∷ r))

-- "A line takes at least one item, then the next while the line with it fits": how many of `rest` the line takes
-- besides those it has
unfoldable pub taken : Limit → ℤ → List ℤ → List ℤ → ℕ
unfolding fits line_size
taken limit gap line [] = zero
taken limit gap line (x ∷ rest) =
    cond (fits limit (line_size gap (line ++ (x ∷ [])))) (suc (taken limit gap (line ++ (x ∷ [])) rest)) zero

-- the first lines of greedy breaking, at most `most` of them: a count for each
unfoldable pub lines_of : ℕ → Limit → ℤ → List ℤ → List ℕ
unfolding taken
lines_of zero limit gap sizes = []
lines_of (suc most) limit gap [] = []
lines_of (suc most) limit gap (x ∷ rest) =
    suc (taken limit gap (x ∷ []) rest) ∷ lines_of most limit gap (drop (taken limit gap (x ∷ []) rest) rest)

-- greedy breaking: there are no more lines than items
unfoldable pub greedy : Limit → ℤ → List ℤ → List ℕ
unfolding lines_of
greedy limit gap sizes = lines_of (length sizes) limit gap sizes
