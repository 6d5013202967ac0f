-- The dynamic program over positions, apart from sizes. A line goes from the item s up to, not including, the item t,
-- and k lines follow it. F s is where the longest allowed line from s ends, G s the greedy line count of the items from
-- s on, Z t says that item t is zero, and w s t is the score of the line from s to t. Only contracts of parts cite it.
-- Assumes nothing: what is asked of F, G, Z and w is the record `Laws`.
use Rattle.std.specs.Prelude.{◌≡◌, ◌⊎◌, List, [], ◌∷◌, ℕ, ◌+◌, ◌≤◌, ◌<◌, length}
use Rattle.balance_rule.specs.Rule.{MoreFirst}

-- t has U, and is the last of the least by c among those that have U
pub record Argmin (U : ℕ → Type 0) (c : ℕ → ℕ) (t : ℕ) : Type 0 where
  pub has : U t
  pub least : (u : ℕ) → U u → c t ≤ c u
  pub last : (u : ℕ) → U u → t < u → c t < c u

-- ---- divisions by position
-- The line from s to t is allowed, k lines following: it holds an item, is no longer than F allows, and if item t is
-- zero, the line could not take it (F s ≤ t), or fewer than k items would be left after it.
pub record Ok (n : ℕ) (F : ℕ → ℕ) (Z : ℕ → Type 0) (s t k : ℕ) : Type 0 where
  pub some : s < t
  pub inside : t ≤ n
  pub fit : t ≤ F s
  pub glue : t < n → Z t → (F s ≤ t) ⊎ (n < t + 1 + k)

abbrev pub ValidAt : (n : ℕ) (F : ℕ → ℕ) (Z : ℕ → Type 0) → ℕ → List ℕ → Type 0
ValidAt n F Z s [] = s ≡ n
ValidAt n F Z s (c ∷ d) = Ok n F Z s (s + c) (length d) × ValidAt n F Z (s + c) d

abbrev pub score_at : (w : ℕ → ℕ → ℕ) → ℕ → List ℕ → ℕ
score_at w s [] = 0
score_at w s (c ∷ d) = w s (s + c) + score_at w (s + c) d

abbrev pub BetterAt : (w : ℕ → ℕ → ℕ) → ℕ → List ℕ → List ℕ → Type 0
BetterAt w s d e = (score_at w s d < score_at w s e) ⊎ ((score_at w s d ≡ score_at w s e) × MoreFirst d e)

-- the chosen division of the items from s on into k lines
pub record BestAt (n : ℕ) (F : ℕ → ℕ) (Z : ℕ → Type 0) (w : ℕ → ℕ → ℕ) (s k : ℕ) (d : List ℕ) : Type 0 where
  pub valid : ValidAt n F Z s d
  pub lines : length d ≡ k
  pub best : (e : List ℕ) → ValidAt n F Z s e → length e ≡ k → (d ≡ e) ⊎ BetterAt w s d e

-- the items from s on can be divided into k lines
pub record Feas (n : ℕ) (G : ℕ → ℕ) (s k : ℕ) : Type 0 where
  pub enough : G s ≤ k
  pub room : s + k ≤ n

pub record Laws (n : ℕ) (F G : ℕ → ℕ) (Z : ℕ → Type 0) (w : ℕ → ℕ → ℕ) : Type 0 where
  pub f_lo : (s : ℕ) → s < n → s < F s
  pub f_hi : (s : ℕ) → s < n → F s ≤ n
  pub f_mono : (s t : ℕ) → s ≤ t → t < n → F s ≤ F t
  pub g_end : G n ≡ 0
  pub g_step : (s : ℕ) → s < n → G s ≡ 1 + G (F s)
  pub Z? : (t : ℕ) → Dec (Z t)
  -- a longer line costs a later start no more than it costs an earlier one
  pub quad : (s s' t t' : ℕ) → s ≤ s' → s' < t → t ≤ t' → t' ≤ n → w s t + w s' t' ≤ w s t' + w s' t

-- the ends that a line from s may have, k lines following, and those of them that no zero item follows
pub record Usable (n : ℕ) (F G : ℕ → ℕ) (Z : ℕ → Type 0) (k s t : ℕ) : Type 0 where
  pub ok : Ok n F Z s t k
  pub feas : Feas n G t k

pub record Nonzero (n : ℕ) (F G : ℕ → ℕ) (Z : ℕ → Type 0) (k s t : ℕ) : Type 0 where
  pub usable : Usable n F G Z k s t
  pub nonzero : ¬ Z t

-- there is a choice for the items from s on into k lines, and its total is x
pub record Costs (n : ℕ) (F : ℕ → ℕ) (Z : ℕ → Type 0) (w : ℕ → ℕ → ℕ) (k s x : ℕ) : Type 0 where
  pub division : List ℕ
  pub best : BestAt n F Z w s k division
  pub total : score_at w s division ≡ x
