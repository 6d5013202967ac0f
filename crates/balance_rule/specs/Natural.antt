-- The rule of specs/Rule.antt over natural numbers, as the laws of the dynamic program have it. Only contracts of parts
-- cite it; `balanced_is` of proofs/Bridge.antt says that what it names is what Rule.antt names. `xs` has the sizes,
-- negative ones read as 0. Assumes nothing.
use Rattle.std.specs.Prelude.{◌≡◌, ◌⊎◌, List, [], ◌∷◌, ℕ, ◌+◌, ◌-◌, ◌*◌, ◌≤◌, ◌<◌, max, length, get_or, take, drop, pos, negsuc}
use Rattle.break_greedy.specs.Breaking as breaking
use Rattle.balance_rule.specs.Rule.{MoreFirst, held}

-- No size is negative: under a definite limit below 0, as under min-content, no line of several items fits.
pub data Limit : Type 0 where
  max_content : Limit
  definite : ℕ → Limit
  definite_below_0 : Limit

-- a limit over natural numbers
abbrev pub natural : breaking.Limit → Limit
natural breaking.min_content = definite_below_0
natural breaking.max_content = max_content
natural (breaking.definite (pos m)) = definite m
natural (breaking.definite (negsuc m)) = definite_below_0

abbrev pub Fits : Limit → ℕ → Type 0
Fits max_content size = Unit {0}
Fits (definite limit) size = size ≤ limit
Fits definite_below_0 size = ⊥

abbrev pub line_size : ℕ → List ℕ → ℕ
line_size gap [] = 0
line_size gap (x ∷ []) = x
line_size gap (x ∷ (y ∷ r)) = x + gap + line_size gap (y ∷ r)

-- one line: the first `c` of the items `xs`, with `after` lines after it
pub record Line (limit : Limit) (gap : ℕ) (xs : List ℕ) (c after : ℕ) : Type 0 where
  pub positive : 0 < c
  pub enough : c ≤ length xs
  pub fit : (c ≡ 1) ⊎ Fits limit (line_size gap (take c xs))
  pub zeros : c < length xs → get_or xs c 1 ≡ 0
      → (¬ Fits limit (line_size gap (take (c + 1) xs))) ⊎ (length xs - (c + 1) < after)

abbrev pub Valid : Limit → ℕ → List ℕ → List ℕ → Type 0
Valid limit gap xs [] = xs ≡ []
Valid limit gap xs (c ∷ d) = Line limit gap xs c (length d) × Valid limit gap (drop c xs) d

abbrev pub score : ℕ → List ℕ → List ℕ → ℕ
score gap xs [] = 0
score gap xs (c ∷ d) = line_size gap (take c xs) * line_size gap (take c xs) + score gap (drop c xs) d

abbrev pub Better : ℕ → List ℕ → List ℕ → List ℕ → Type 0
Better gap xs d e = (score gap xs d < score gap xs e) ⊎ ((score gap xs d ≡ score gap xs e) × MoreFirst d e)

pub record Chosen (limit : Limit) (gap : ℕ) (xs : List ℕ) (k : ℕ) (d : List ℕ) : Type 0 where
  pub valid : Valid limit gap xs d
  pub lines : length d ≡ k
  pub best : (e : List ℕ) → Valid limit gap xs e → length e ≡ k → (d ≡ e) ⊎ Better gap xs d e

-- a greedy line, by what it is and not by how it is found
pub record GreedyLine (limit : Limit) (gap : ℕ) (xs : List ℕ) (c : ℕ) : Type 0 where
  pub positive : 0 < c
  pub enough : c ≤ length xs
  pub taken : (j : ℕ) → 1 < j → j ≤ c → Fits limit (line_size gap (take j xs))
  pub full : c < length xs → ¬ Fits limit (line_size gap (take (c + 1) xs))

abbrev pub Greedy : Limit → ℕ → List ℕ → List ℕ → Type 0
Greedy limit gap xs [] = xs ≡ []
Greedy limit gap xs (c ∷ d) = GreedyLine limit gap xs c × Greedy limit gap (drop c xs) d

pub record LineCount (limit : Limit) (gap : ℕ) (xs : List ℕ) (minimum k : ℕ) : Type 0 where
  pub greedy : List ℕ
  pub is_greedy : Greedy limit gap xs greedy
  pub is : k ≡ max (length greedy) (held minimum (length xs))

pub record Balanced (limit : Limit) (gap : ℕ) (xs : List ℕ) (minimum : ℕ) (d : List ℕ) : Type 0 where
  pub count : LineCount limit gap xs minimum (length d)
  pub chosen : Chosen limit gap xs (length d) d
