-- From the rule's lists to positions: sums, and where a line stops fitting. Only contracts of parts cite it. Assumes
-- nothing.
use Rattle.std.specs.Prelude.{◌≡◌, ◌⊎◌, List, [], ◌∷◌, ℕ, zero, suc, ◌+◌, ◌-◌, ◌*◌, ◌≤◌, ◌<◌, length, get_or}
use Rattle.balance_rule.specs.Natural.{Limit, Fits}

-- ---- sums: each item with a gap after it
abbrev pub pre : ℕ → List ℕ → ℕ → ℕ
pre gap xs zero = 0
pre gap [] (suc i) = 0
pre gap (x ∷ xs) (suc i) = x + gap + pre gap xs i

-- the size of the line from s up to t, from the sums, and its square
abbrev pub size_at : ℕ → List ℕ → ℕ → ℕ → ℕ
size_at gap xs s t = pre gap xs t - (pre gap xs s + gap)

abbrev pub square_at : ℕ → List ℕ → ℕ → ℕ → ℕ
square_at gap xs s t = size_at gap xs s t * size_at gap xs s t

-- ---- where a line from s stops fitting: f is the end of the longest line that the fit rule allows
pub record FitEnd (limit : Limit) (gap : ℕ) (xs : List ℕ) (s f : ℕ) : Type 0 where
  pub lo : s < f
  pub hi : f ≤ length xs
  pub fit : (f ≡ s + 1) ⊎ Fits limit (size_at gap xs s f)
  pub full : f < length xs → ¬ Fits limit (size_at gap xs s (f + 1))

-- G is the greedy count of each suffix
pub record GreedyCounts (n : ℕ) (F G : ℕ → ℕ) : Type 0 where
  pub end : G n ≡ 0
  pub step : (s : ℕ) → s < n → G s ≡ 1 + G (F s)

-- item t is zero. Past the last item there is none
abbrev pub ZeroAt : List ℕ → ℕ → Type 0
ZeroAt xs t = get_or xs t 1 ≡ 0
