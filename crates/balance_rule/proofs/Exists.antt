-- Over natural numbers, every list of at least one item has a division that the rule names: the tables of fit ends and greedy counts exist, and the dynamic program
-- has a choice wherever it is feasible. Assumes nothing.
use mathlib.Core.Path.{◌≡◌, refl, sym, ap, ◌∙◌}
use mathlib.Core.Logic.{◌⊎◌, inl, inr}
use mathlib.Core.List.{List, [], ◌∷◌}
use Prim.Native.Nat.{ℕ, zero, suc, ◌+◌, ◌-◌, ◌≤◌, ◌<◌, zero-le, max}
use native.Mathlib.Nat.{le_refl}
use native.Mathlib.Omega.{arith}
use lib.ListN.{length, drop, length-drop}
use lib.Seq.{drop-drop}
use Rattle.balance_rule.specs.Natural.{Limit, Fits, Chosen, GreedyLine, Greedy, Balanced}
use Rattle.balance_rule.specs.Rule.{held}
use Rattle.balance_rule.specs.Dp.{Feas, Laws, Costs}
use Rattle.balance_rule.proofs.DpLaws.{lt_or_ge, g_le, exists}
use Rattle.balance_rule.specs.Sizes.{size_at, square_at, FitEnd, GreedyCounts, ZeroAt}
use Rattle.balance_rule.proofs.SizesLaws.{fits_dec, line_size_lem, fit_over, fit_under, fit_one, laws, chosen}

pub empty : {A : Type 0} (l : List A) → length l ≡ 0 → l ≡ []
empty [] e = refl
empty (x ∷ l) e = absurd (omega arith)

module _ (limit : Limit) (gap : ℕ) (xs : List ℕ) where
  -- ---- a greedy line is a fit end, either way
  pub greedy→fit : (s c : ℕ) → s + c ≤ length xs → GreedyLine limit gap (drop s xs) c → FitEnd limit gap xs s (s + c)
  greedy→fit s c h g = record { lo = omega (arith, g.positive); hi = h; fit = fits' (lt_or_ge 1 c); full = full' }
    where
      len : length (drop s xs) ≡ length xs - s
      len = length-drop s xs

      fits' : (1 < c) ⊎ (c ≤ 1) → (s + c ≡ s + 1) ⊎ Fits limit (size_at gap xs s (s + c))
      fits' (inl q) = inr (rw (line_size_lem gap xs s c (omega arith) h) at (g.taken c q (le_refl c)))
      fits' (inr q) = inl (omega (arith, g.positive))

      full' : s + c < length xs → ¬ Fits limit (size_at gap xs s (s + c + 1))
      full' l q =
          let e : s + c + 1 ≡ s + (c + 1) = omega arith in
          g.full (omega (arith, len)) (rw (line_size_lem gap xs s (c + 1) (omega arith) (omega arith)) (rw e at q))

  pub fit→greedy : (s c : ℕ) → FitEnd limit gap xs s (s + c) → GreedyLine limit gap (drop s xs) c
  fit→greedy s c f = record {
    positive = omega (arith, f.lo);
    enough = omega (arith, len, f.hi, f.lo);
    taken = λ j p q. rw (line_size_lem gap xs s j (omega arith) (omega (arith, f.hi))) (fit_under limit gap xs s (s + c) (s + j) f (omega arith) (omega arith));
    full = λ l q. fit_over limit gap xs s (s + c) (s + (c + 1)) f (omega arith) (omega (arith, len)) (rw (line_size_lem gap xs s (c + 1) (omega arith) (omega (arith, len))) at q);
  }
    where
      len : length (drop s xs) ≡ length xs - s
      len = length-drop s xs

  -- the greedy division's line count is the greedy count
  pub greedy-count : (F G : ℕ → ℕ) → ((s : ℕ) → s < length xs → FitEnd limit gap xs s (F s)) → GreedyCounts (length xs) F G
      → (s : ℕ) (d : List ℕ) → s ≤ length xs → Greedy limit gap (drop s xs) d → length d ≡ G s
  greedy-count F G fe gc s [] h g =
      let e : s ≡ length xs = omega (arith, length-drop s xs, ap length g) in
      sym (rw e gc.end)
  greedy-count F G fe gc s (c ∷ d) h (l, g) =
      let tn : s + c ≤ length xs = omega (arith, l.enough, l.positive, length-drop s xs) in
      let sn : s < length xs = omega (arith, l.enough, l.positive, length-drop s xs) in
      let e : F s ≡ s + c = fit_one limit gap xs s (F s) (s + c) (fe s sn) (greedy→fit s c tn l) in
      let ih : length d ≡ G (s + c) = greedy-count F G fe gc (s + c) d tn (rw drop-drop at g) in
      omega (arith, gc.step s sn, ap G e)

  -- and there is one
  pub greedy_made : (F : ℕ → ℕ) → ((s : ℕ) → s < length xs → FitEnd limit gap xs s (F s)) → (m s : ℕ) → s ≤ length xs → length xs ≤ s + m
      → (d : List ℕ) × Greedy limit gap (drop s xs) d
  greedy_made F fe zero s h f = ([], empty (drop s xs) (omega (arith, length-drop s xs)))
  greedy_made F fe (suc m) s h f = go (λ p q. greedy_made F fe m (F s) p q) (lt_or_ge s (length xs))
    where
      go : (F s ≤ length xs → length xs ≤ F s + m → (d : List ℕ) × Greedy limit gap (drop (F s) xs) d) → (s < length xs) ⊎ (length xs ≤ s)
          → (d : List ℕ) × Greedy limit gap (drop s xs) d
      go r (inr g) = ([], empty (drop s xs) (omega (arith, length-drop s xs)))
      go r (inl g) =
          let a : s < F s = (fe s g).lo in
          let b : F s ≤ length xs = (fe s g).hi in
          let e : s + (F s - s) ≡ F s = omega arith in
          let t : (d : List ℕ) × Greedy limit gap (drop (F s) xs) d = r b (omega arith) in
          ((F s - s) ∷ t.0, (fit→greedy s (F s - s) (rw e (fe s g)), rw drop-drop (rw e t.1)))

  -- ---- from tables of fit ends and greedy counts to the rule
  pub balanced_of : (F G : ℕ → ℕ) → ((s : ℕ) → s < length xs → FitEnd limit gap xs s (F s)) → GreedyCounts (length xs) F G
      → (minimum : ℕ) (d : List ℕ) → Chosen limit gap xs (max (G 0) (held minimum (length xs))) d → Balanced limit gap xs minimum d
  balanced_of F G fe gc minimum d c =
      let g : (g : List ℕ) × Greedy limit gap xs g = greedy_made F fe (length xs) 0 zero-le (omega arith) in
      let e : length g.0 ≡ G 0 = greedy-count F G fe gc 0 g.0 zero-le g.1 in
      record {
        count = record { greedy = g.0; is_greedy = g.1; is = omega (arith, c.lines) };
        chosen = rw c.lines c;
      }

  -- ---- the tables exist
  fit_search : (s m f : ℕ) → s < f → f ≤ length xs → length xs ≤ f + m → (f ≡ s + 1) ⊎ Fits limit (size_at gap xs s f) → (f : ℕ) × FitEnd limit gap xs s f
  fit_search s zero f a b c h = (f, record { lo = a; hi = b; fit = h; full = λ l. absurd (omega arith) })
  fit_search s (suc m) f a b c h = go (λ p q r. fit_search s m (f + 1) (omega arith) p q r) (lt_or_ge f (length xs)) (fits_dec limit (size_at gap xs s (f + 1)))
    where
      go : (f + 1 ≤ length xs → length xs ≤ f + 1 + m → (f + 1 ≡ s + 1) ⊎ Fits limit (size_at gap xs s (f + 1)) → (f : ℕ) × FitEnd limit gap xs s f)
          → (f < length xs) ⊎ (length xs ≤ f) → Dec (Fits limit (size_at gap xs s (f + 1))) → (f : ℕ) × FitEnd limit gap xs s f
      go r (inr g) e = (f, record { lo = a; hi = b; fit = h; full = λ l. absurd (omega arith) })
      go r (inl g) (no e) = (f, record { lo = a; hi = b; fit = h; full = λ _. e })
      go r (inl g) (yes e) = r (omega arith) (omega arith) (inr e)

  fit_at : (s : ℕ) → (s < length xs) ⊎ (length xs ≤ s) → ℕ
  fit_at s (inl h) = (fit_search s (length xs) (s + 1) (omega arith) (omega arith) (omega arith) (inl refl)).0
  fit_at s (inr h) = 0

  fit_table : ℕ → ℕ
  fit_table s = fit_at s (lt_or_ge s (length xs))

  fit_table_is : (s : ℕ) → s < length xs → FitEnd limit gap xs s (fit_table s)
  unfolding fit_table fit_at
  fit_table_is s h = go (lt_or_ge s (length xs))
    where
      go : (o : (s < length xs) ⊎ (length xs ≤ s)) → FitEnd limit gap xs s (fit_at s o)
      go (inl q) = (fit_search s (length xs) (s + 1) (omega arith) (omega arith) (omega arith) (inl refl)).1
      go (inr q) = absurd (omega arith)

  count_fuel : ℕ → ℕ → ℕ
  count_fuel zero s = 0
  count_fuel (suc m) s = elim (lt_or_ge s (length xs)) [ inl h ↦ 1 + count_fuel m (fit_table s) | inr h ↦ 0 ]

  count_in : (m s : ℕ) → s < length xs → count_fuel (suc m) s ≡ 1 + count_fuel m (fit_table s)
  unfolding count_fuel
  count_in m s h = go (lt_or_ge s (length xs))
    where
      go : (o : (s < length xs) ⊎ (length xs ≤ s)) → ◌≡◌ {A = ℕ} (elim o [ inl h ↦ 1 + count_fuel m (fit_table s) | inr h ↦ 0 ]) (1 + count_fuel m (fit_table s))
      go (inl q) = refl
      go (inr q) = absurd (omega arith)

  count_out : (m s : ℕ) → length xs ≤ s → count_fuel m s ≡ 0
  unfolding count_fuel
  count_out zero s h = refl
  count_out (suc m) s h = go (lt_or_ge s (length xs))
    where
      go : (o : (s < length xs) ⊎ (length xs ≤ s)) → ◌≡◌ {A = ℕ} (elim o [ inl h ↦ 1 + count_fuel m (fit_table s) | inr h ↦ 0 ]) 0
      go (inl q) = absurd (omega arith)
      go (inr q) = refl

  count-more : (m m' s : ℕ) → length xs ≤ s + m → length xs ≤ s + m' → count_fuel m s ≡ count_fuel m' s
  count-more zero m' s p q = count_out zero s (omega arith) ∙ sym (count_out m' s (omega arith))
  count-more (suc m) zero s p q = count_out (suc m) s (omega arith) ∙ sym (count_out zero s (omega arith))
  count-more (suc m) (suc m') s p q = go (count-more m m' (fit_table s)) (lt_or_ge s (length xs))
    where
      go : (length xs ≤ fit_table s + m → length xs ≤ fit_table s + m' → count_fuel m (fit_table s) ≡ count_fuel m' (fit_table s)) → (s < length xs) ⊎ (length xs ≤ s)
          → count_fuel (suc m) s ≡ count_fuel (suc m') s
      go r (inr g) = count_out (suc m) s g ∙ sym (count_out (suc m') s g)
      go r (inl g) =
          let a : s < fit_table s = (fit_table_is s g).lo in
          omega (arith, count_in m s g, count_in m' s g, r (omega arith) (omega arith))

  count-table : ℕ → ℕ
  count-table s = count_fuel (length xs) s

  count_table_is : GreedyCounts (length xs) fit_table count-table
  unfolding count-table
  count_table_is = record { end = count_out (length xs) (length xs) (le_refl (length xs)); step = step' }
    where
      step' : (s : ℕ) → s < length xs → count-table s ≡ 1 + count-table (fit_table s)
      step' s h =
          let a : s < fit_table s = (fit_table_is s h).lo in
          omega (arith, count-more (length xs) (suc (length xs)) s (omega arith) (omega arith), count_in (length xs) s h)

  -- EVERY LIST OF ITEMS WITH AT LEAST ONE HAS A BALANCED DIVISION
  pub balanced_exists : (minimum : ℕ) → 0 < length xs → (d : List ℕ) × Balanced limit gap xs minimum d
  balanced_exists minimum h = (
    c.1.division,
    balanced_of fit_table count-table fit_table_is count_table_is minimum c.1.division
        (chosen limit gap xs fit_table count-table fit_table_is count_table_is K c.1.division c.1.best),
  )
    where
      K : ℕ
      K = max (count-table 0) (held minimum (length xs))

      law : Laws (length xs) fit_table count-table (ZeroAt xs) (square_at gap xs)
      law = laws limit gap xs fit_table count-table fit_table_is count_table_is

      f : Feas (length xs) count-table 0 K
      f = record { enough = omega arith; room = omega (arith, g_le (length xs) fit_table count-table (ZeroAt xs) (square_at gap xs) law 0 zero-le) }

      c : (x : ℕ) × Costs (length xs) fit_table (ZeroAt xs) (square_at gap xs) K 0 x
      c = exists (length xs) fit_table count-table (ZeroAt xs) (square_at gap xs) law K 0 f

  -- two greedy divisions have as many lines
  pub greedy_same : (d e : List ℕ) → Greedy limit gap xs d → Greedy limit gap xs e → length d ≡ length e
  greedy_same d e p q = omega (
    arith,
    greedy-count fit_table count-table fit_table_is count_table_is 0 d zero-le p,
    greedy-count fit_table count-table fit_table_is count_table_is 0 e zero-le q,
  )
