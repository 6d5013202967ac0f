-- THE PLAIN RULE OF BALANCED BREAKING (document 01, "Breaking", "Balanced"), as definitions alone. Nothing here
-- searches for a division: `Chosen` only says what a division must be. Every number counts whole sixty-fourths of a
-- pixel, or items, or lines. Assumes nothing.
use Rattle.std.specs.Prelude.{◌≡◌, not, ◌⊎◌, List, [], ◌∷◌, map, ℕ, ◌+◌, ◌-◌, ◌*◌, ◌≤◌, ◌<◌, min, max, T, length, get_or, take, drop, ℤ, pos, negsuc, nat_abs}
use Rattle.break_greedy.specs.Breaking.{Limit, fits, line_size, greedy}

-- "Negative sizes read as 0."
abbrev pub floored : ℤ → ℤ
floored (pos n) = pos n
floored (negsuc n) = pos 0

-- THE RULES FOR ONE LINE: the first `c` of the items `xs`, with `after` lines after it.
pub record Line (limit : Limit) (gap : ℤ) (xs : List ℤ) (c after : ℕ) : Type 0 where
  -- "positive counts"
  pub positive : 0 < c
  pub enough : c ≤ length xs
  -- "each line has one item or fits"
  pub fit : (c ≡ 1) ⊎ T (fits limit (line_size gap (take c xs)))
  -- "if the item after a line is zero, either the line with it would not fit, or fewer items would remain after that
  -- item than there are lines after this one". The item after the line is item number c of xs, where there is one:
  -- under `c < length xs` the default `pos 1` is never read.
  pub zeros : c < length xs → get_or xs c (pos 1) ≡ pos 0
      → T (not (fits limit (line_size gap (take (c + 1) xs)))) ⊎ (length xs - (c + 1) < after)

-- A VALID DIVISION of the items xs into the lines d, each line given by its count. What a line does not take is left
-- for the lines after it, and nothing is left after the last: so the counts' sum is the number of items.
abbrev pub Valid : Limit → ℤ → List ℤ → List ℕ → Type 0
Valid limit gap xs [] = xs ≡ []
Valid limit gap xs (c ∷ d) = Line limit gap xs c (length d) × Valid limit gap (drop c xs) d

-- "A line's score is its size squared." The total over the lines.
abbrev pub score : ℤ → List ℤ → List ℕ → ℕ
score gap xs [] = 0
score gap xs (c ∷ d) =
    nat_abs (line_size gap (take c xs)) * nat_abs (line_size gap (take c xs)) + score gap (drop c xs) d

-- the first line at which d and e differ holds more items in d
abbrev pub MoreFirst : List ℕ → List ℕ → Type 0
MoreFirst [] e = ⊥
MoreFirst (c ∷ d) [] = ⊥
MoreFirst (c ∷ d) (b ∷ e) = (b < c) ⊎ ((c ≡ b) × MoreFirst d e)

-- "least in total, then has the larger count at the first difference"
abbrev pub Better : ℤ → List ℤ → List ℕ → List ℕ → Type 0
Better gap xs d e = (score gap xs d < score gap xs e) ⊎ ((score gap xs d ≡ score gap xs e) × MoreFirst d e)

-- THE CHOSEN DIVISION of the items xs into k lines: valid, of k lines, and better than every other such
pub record Chosen (limit : Limit) (gap : ℤ) (xs : List ℤ) (k : ℕ) (d : List ℕ) : Type 0 where
  pub valid : Valid limit gap xs d
  pub lines : length d ≡ k
  pub best : (e : List ℕ) → Valid limit gap xs e → length e ≡ k → (d ≡ e) ⊎ Better gap xs d e

-- "The line count k is the larger of the greedy count over these sizes and the minimum held to 1..n."
abbrev pub held : ℕ → ℕ → ℕ
held minimum n = min (max minimum 1) n

abbrev pub required : Limit → ℤ → List ℤ → ℕ → ℕ
required limit gap xs minimum = max (length (greedy limit gap xs)) (held minimum (length xs))

-- THE RULE: d is the chosen division of the sizes, negative ones read as 0, into the required number of lines. Under
-- min-content no line of several items fits, so that every line is one item; and no items make no lines.
abbrev pub Balanced : Limit → ℤ → List ℤ → ℕ → List ℕ → Type 0
Balanced limit gap sizes minimum d =
    Chosen limit gap (map floored sizes) (required limit gap (map floored sizes) minimum) d
