-- What the code computes on its cells, as the machine computes it, and what the cells hold. Only contracts of parts
-- cite it. Assumes nothing.
use Rattle.std.specs.Prelude.{◌≡◌, ◌⊎◌, List, Bool, true, false, cond, ℕ, suc, ◌+◌, ◌^◌, ◌≤◌, ◌<◌, length, get_or, Float}
use Rattle.std.specs.Float.{nan, binary64}
use Rattle.std.specs.Float.Ieee.{add, sub, mul, le, eq}
use Rattle.balance_rule.specs.Natural.{Limit}
use Rattle.balance_rule.specs.Dp.{Argmin, Feas, Usable, Costs}
use Rattle.balance_rule.specs.Ends.{Covers}
use Rattle.balance_rule.specs.Sizes.{pre, square_at, FitEnd, GreedyCounts, ZeroAt}
use Rattle.balance_sums.specs.Whole.{Holds, whole}
use Rattle.balance_sums.specs.Sums.{ends}

-- ---- the machine's arithmetic
abbrev pub cost_f : List Float → List Float → Float → ℕ → Float
cost_f sums prev base e = add binary64 (mul binary64 (sub binary64 (get_or sums e nan) base)
    (sub binary64 (get_or sums e nan) base)) (get_or prev (e + 1) nan)

-- whether the item after e is zero
abbrev pub zero_f : List Float → Float → ℕ → Bool
zero_f sums gap e = eq (sub binary64 (get_or sums (e + 1) nan) (get_or sums e nan)) gap

-- the choice between an end that no zero item follows and the far end
abbrev pub choose_f : List Float → Float → List Float → Float → ℕ → ℕ → ℕ
choose_f sums gap prev base near to =
    cond (zero_f sums gap to) (cond (le (cost_f sums prev base to) (cost_f sums prev base near)) to near) near

-- ---- what the cells stand for: the limit, the gap and the sizes of the rule, the greedy count of each suffix, how
-- many lines follow, and from where to
-- where the row below has its totals
pub record Ghost : Type 0 where
  pub limit : Limit
  pub gap : ℕ
  pub xs : List ℕ
  pub G : ℕ → ℕ
  pub k : ℕ
  pub lo : ℕ
  pub hi : ℕ

abbrev pub value : List Float → ℕ → ℕ
value prev t = whole (get_or prev t nan)

-- the row below has a total for the items from t on
pub record Stands (q : Ghost) (t : ℕ) : Type 0 where
  pub feas : Feas (length q.xs) q.G t q.k
  pub from : q.lo ≤ t
  pub to : t ≤ q.hi

-- the start s can be filled: its items can be divided, and the row below has what any first line leaves
pub record StartReady (q : Ghost) (fit : List ℕ) (s : ℕ) : Type 0 where
  pub feas : Feas (length q.xs) q.G s (suc q.k)
  pub from : q.lo ≤ s + 1
  pub to : ends fit s ≤ q.hi

-- what a row of the program is given
pub record RowIn (q : Ghost) (sums : List Float) (gap : Float) (fit : List ℕ) (prev : List Float)
    (maxEnd : ℕ) : Type 0 where
  pub count : length sums ≡ length q.xs
  pub gap_is : Holds gap q.gap
  pub sums_are : (i : ℕ) → i < length q.xs → Holds (get_or sums i nan) (pre q.gap q.xs (suc i))
  pub small : pre q.gap q.xs (length q.xs) ≤ 2 ^ 24
  pub fits_are : (s : ℕ) → s < length q.xs → FitEnd q.limit q.gap q.xs s (ends fit s)
  pub greedy : GreedyCounts (length q.xs) (ends fit) q.G
  pub prev_are : (t : ℕ) → Stands q t → Costs (length q.xs) (ends fit) (ZeroAt q.xs) (square_at q.gap q.xs)
      q.k t (value prev t)
  pub prev_hold : (t : ℕ) → Stands q t → Holds (get_or prev t nan) (value prev t)
  pub some_after : 0 < q.k
  pub max_end : maxEnd + 1 + q.k ≡ length q.xs

-- the choice that the row makes at the start s: the line's last item e
abbrev pub Choice : Ghost → List ℕ → List Float → ℕ → ℕ → Type 0
Choice q fit prev s e =
    Argmin (Usable (length q.xs) (ends fit) q.G (ZeroAt q.xs) q.k s)
    (λ t. square_at q.gap q.xs s t + value prev t) (e + 1)

abbrev pub CoversIn : Ghost → List ℕ → List Float → ℕ → ℕ → ℕ → Type 0
CoversIn q fit prev a b s =
    Covers (length q.xs) (ends fit) q.G (ZeroAt q.xs) (square_at q.gap q.xs) (value prev) q.k a b s

-- what keeps the code's accesses in range
pub record Safe (sums : List Float) (fit : List ℕ) (prev : List Float) (maxEnd b : ℕ) : Type 0 where
  pub few : length prev ≤ 1024
  pub sums_length : length sums ≡ length prev
  pub fit_length : length fit ≡ length prev
  pub room : maxEnd + 1 < length prev
  pub reach : b ≤ maxEnd + 1
  pub fit_lo : (s : ℕ) → s < length prev → s ≤ get_or fit s 0
  pub fit_hi : (s : ℕ) → s < length prev → get_or fit s 0 < length prev

-- the ends from a up to b leave what can be divided
pub record EndsFeas (q : Ghost) (a b : ℕ) : Type 0 where
  pub feas : (e : ℕ) → a ≤ e → e < b → Feas (length q.xs) q.G (e + 1) q.k

-- r is the first end from `from` on that no zero item follows, or the first past those below `stop`
pub record FirstPlain (sums : List Float) (gap : Float) (from stop r : ℕ) : Type 0 where
  pub lo : from ≤ r
  pub hi : from < r → r ≤ stop
  pub zeros : (e : ℕ) → from ≤ e → e < r → zero_f sums gap e ≡ true
  pub here : r < stop → zero_f sums gap r ≡ false

-- the last of the cheapest ends that no zero item follows, for whatever numbers the costs hold
pub record LeastOf (sums : List Float) (gap : Float) (prev : List Float) (base : Float)
    (first stop r : ℕ) : Type 0 where
  pub lo : first ≤ r
  pub hi : r < stop
  pub least : (c : ℕ → ℕ) → ((e : ℕ) → first ≤ e → e < stop → Holds (cost_f sums prev base e) (c e))
      → Argmin (λ e. (first ≤ e) × (e < stop) × (zero_f sums gap e ≡ false)) c r

-- what a start's choice gives: the line's last item e, and the ends that are left for later starts, from `lo` on, and
-- for earlier ones, up to `hi`
pub record PickOut (sums : List Float) (gap : Float) (fit : List ℕ) (prev : List Float)
    (maxEnd a b s e lo hi : ℕ) : Type 0 where
  pub end_lo : s ≤ e
  pub end_hi : e ≤ maxEnd
  pub lo_lo : a ≤ lo
  pub hi_hi : hi ≤ b
  pub choice : (q : Ghost) → RowIn q sums gap fit prev maxEnd → EndsFeas q a b → StartReady q fit s
      → CoversIn q fit prev a b s
      → Choice q fit prev s e
      × ((r : ℕ) → r < s → CoversIn q fit prev a b r → CoversIn q fit prev a hi r)
      × ((r : ℕ) → s < r → CoversIn q fit prev a b r → CoversIn q fit prev lo b r)

-- what a row's range gives
pub record RowOut (sums : List Float) (gap : Float) (fit : List ℕ) (prev : List Float) (maxEnd lo hi a b : ℕ)
    (cur₀ cur : List Float) (opts₀ opts : List ℕ) : Type 0 where
  pub cur_kept : (s : ℕ) → (s < lo) ⊎ (hi ≤ s) → get_or cur s nan ≡ get_or cur₀ s nan
  pub opts_kept : (s : ℕ) → (s < lo) ⊎ (hi ≤ s) → get_or opts s 0 ≡ get_or opts₀ s 0
  pub filled : (q : Ghost) → RowIn q sums gap fit prev maxEnd → EndsFeas q a b
      → ((s : ℕ) → lo ≤ s → s < hi → StartReady q fit s × CoversIn q fit prev a b s)
      → (s : ℕ) → lo ≤ s → s < hi
      → Choice q fit prev s (get_or opts s 0) × Holds (get_or cur s nan)
      (square_at q.gap q.xs s (ends opts s) + value prev (ends opts s))
