-- The steps of filling the tables. Assumes nothing.
use mathlib.Core.Path.{◌≡◌, refl, sym, subst, ◌∙◌}
use mathlib.Core.Logic.{◌⊎◌, inl, inr, ◌≢◌}
use mathlib.Core.List.{List}
use mathlib.Core.Bool.{true, false, true≢false, false≢true}
use Prim.Native.Nat.{ℕ, suc, ◌+◌, ◌-◌, ◌^◌, ◌≤◌, ◌<◌, max}
use native.Mathlib.Nat.{le_refl}
use native.Mathlib.Numerals.{add-one}
use native.Mathlib.Omega.{arith}
use borrow.Author.Tests.{leb-true, leb-false}
use lib.ListN.{length, get_or, set, get_or-eq_default}
use lib.Seq.{get_or-set_same, get_or-set_other}
use lib.Ieee.{Float, nan, binary64, add}
use lib.IntN.{ℤ, pos, negsuc}
use lib.Signed.{le_z}
use Rattle.grid.specs.Values.{At}
use Rattle.grid.proofs.Exact.{le_at}
use Rattle.std.specs.declared.option.Option.{Option}
use Rattle.std.specs.declared.option.Option.TheVariants.{Some, None}
use Rattle.break_greedy.specs.Breaking as limit
use Rattle.balance_rule.specs.Natural.{Limit, max_content, natural, Fits}
use Rattle.balance_rule.proofs.DpLaws.{lt_or_ge, Order, order, less, same, more}
use Rattle.balance_rule.specs.Sizes.{pre, size_at, FitEnd, GreedyCounts}
use Rattle.balance_rule.proofs.SizesLaws.{fits_less, size_mono, fit_under, pre_step, pre_mono}
use Rattle.balance_sums.specs.Whole.{Holds}
use Rattle.balance_sums.proofs.WholeLaws.{holds_at, add_holds}
use Rattle.balance_sums.specs.Sums.{size_f, ends}
use Rattle.balance_sums.specs.declared.Units.{Units}
use Rattle.balance_sums.proofs.SumsLaws.{size_holds}
use Rattle.balance_tables.specs.Tables.{fits_f, LimitIs, SumsAre, StretchOut, CountsFrom, FitRange, Rising, Falling, Reaches, FirstFor}

pub limit-max : LimitIs max_content None
limit-max = record { yes-fits = λ y a h t. tt; no_fit = λ y a h t. absurd (true≢false t) }

-- a definite limit of either sign: the comparison is that of the numbers, and a size is not negative
pub limit_definite : (z : ℤ) (x : Float) → At 1 x z → LimitIs (natural (limit.definite z)) (Some (record { 0 = x }))
limit_definite z x g = record {
  yes-fits = λ y a h t. yes z a (sym (le_at 1 (omega arith) (holds_at y a h) g) ∙ t);
  no_fit = λ y a h t. none z a (sym (le_at 1 (omega arith) (holds_at y a h) g) ∙ t);
}
  where
    yes : (z : ℤ) (a : ℕ) → le_z (pos a) z ≡ true → Fits (natural (limit.definite z)) a
    yes (pos m) a t = leb-true a m t
    yes (negsuc m) a t = absurd (false≢true t)

    none : (z : ℤ) (a : ℕ) → le_z (pos a) z ≡ false → ¬ Fits (natural (limit.definite z)) a
    none (pos m) a t f = absurd (omega (arith, leb-false a m t))
    none (negsuc m) a t f = f

-- ---- the table of fit ends, up to `start`. `end` is the last one
pub record FitSoFar (sums : List Float) (gap : Float) (most : Option Units) (fit : List ℕ) (start end : ℕ) : Type 0 where
  pub end_hi : 0 < length sums → end < length sums
  pub lo : (s : ℕ) → s < start → s ≤ get_or fit s 0
  pub hi : (s : ℕ) → s < start → get_or fit s 0 < length sums
  pub ends_at : 0 < start → end ≡ get_or fit (start - 1) 0
  pub starts_at : start ≡ 0 → end ≡ 0
  pub are : (L : Limit) (g : ℕ) (xs : List ℕ) → SumsAre g xs sums gap → LimitIs L most → (s : ℕ) → s < start → FitEnd L g xs s (ends fit s)

module _ {sums : List Float} {gap : Float} {most : Option Units} where
  pub fit_start : (fit : List ℕ) → FitSoFar sums gap most fit 0 0
  fit_start fit = record {
    end_hi = λ h. h;
    lo = λ s h. absurd (omega arith);
    hi = λ s h. absurd (omega arith);
    ends_at = λ h. absurd (omega arith);
    starts_at = λ _. refl;
    are = λ L g xs S T s h. absurd (omega arith);
  }

  pub fit_more : {fit : List ℕ} {start end r : ℕ} → start < length sums → length fit ≡ length sums → FitSoFar sums gap most fit start end
      → StretchOut sums gap most start (max end start) r → FitSoFar sums gap most (set fit start r) (start + 1) r
  fit_more {fit} {start} {end} {r} sn fl P O = record {
    end_hi = λ _. O.so_far.hi;
    lo = λ s h. at_lo s h (order s start);
    hi = λ s h. at_hi s h (order s start);
    ends_at = λ _. sym (rw e here);
    starts_at = λ h. absurd (omega arith);
    are = λ L g xs S T s h. at L g xs S T s h (order s start);
  }
    where
      e : start + 1 - 1 ≡ start
      e = omega arith

      here : get_or (set fit start r) start 0 ≡ r
      here = get_or-set_same fit start r 0 (omega (arith, fl))

      there : (s : ℕ) → s < start → get_or (set fit start r) s 0 ≡ get_or fit s 0
      there s h = get_or-set_other fit start s r 0 (omega arith)

      at_lo : (s : ℕ) → s < start + 1 → Order s start → s ≤ get_or (set fit start r) s 0
      at_lo s h (less l) = rw (there s l) (P.lo s l)
      at_lo s h (same l) = rw (l, here) (omega (arith, O.so_far.lo))
      at_lo s h (more l) = absurd (omega arith)

      at_hi : (s : ℕ) → s < start + 1 → Order s start → get_or (set fit start r) s 0 < length sums
      at_hi s h (less l) = rw (there s l) (P.hi s l)
      at_hi s h (same l) = rw (l, here) O.so_far.hi
      at_hi s h (more l) = absurd (omega arith)

      at : (L : Limit) (g : ℕ) (xs : List ℕ) → SumsAre g xs sums gap → LimitIs L most → (s : ℕ) → s < start + 1 → Order s start → FitEnd L g xs s (ends (set fit start r) s)
      at L g xs S T s h (less l) = rw (there s l) (P.are L g xs S T s l)
      at L g xs S T s h (more l) = absurd (omega arith)
      at L g xs S T s h (same l) = rw (l, here) (record {
        lo = omega (arith, O.so_far.lo);
        hi = omega (arith, O.so_far.hi, S.count);
        fit = from_start O.so_far.taken;
        full = λ q f. T.no_fit (size_f sums gap start (r + 1)) (size_at g xs start (r + 1 + 1)) (sized (r + 1) (omega (arith, O.so_far.lo)) (omega (arith, S.count))) (O.stopped (omega (arith, S.count))) f;
      })
        where
          sized : (i : ℕ) → start ≤ i → i < length xs → Holds (size_f sums gap start i) (size_at g xs start (i + 1))
          sized i p q = rw add-one (size_holds sums gap g xs S.gap_is S.sums_are S.small start i p q)

          from_start : (r ≡ max end start) ⊎ (fits_f most (size_f sums gap start r) ≡ true) → (r + 1 ≡ start + 1) ⊎ Fits L (size_at g xs start (r + 1))
          from_start (inr t) = inr (T.yes-fits (size_f sums gap start r) (size_at g xs start (r + 1)) (sized r (omega (arith, O.so_far.lo)) (omega (arith, O.so_far.hi, S.count))) t)
          from_start (inl t) = old (lt_or_ge start end)
            where
              old : (start < end) ⊎ (end ≤ start) → (r + 1 ≡ start + 1) ⊎ Fits L (size_at g xs start (r + 1))
              old (inr u) = inl (omega arith)
              old (inl u) = first (lt_or_ge 0 start)
                where
                  first : (0 < start) ⊎ (start ≤ 0) → (r + 1 ≡ start + 1) ⊎ Fits L (size_at g xs start (r + 1))
                  first (inr v) = absurd (omega (arith, P.starts_at (omega arith)))
                  first (inl v) =
                      let pe : get_or fit (start - 1) 0 ≡ r = omega (arith, P.ends_at v) in
                      let fe : FitEnd L g xs (start - 1) (r + 1) = subst (λ (i : ℕ). FitEnd L g xs (start - 1) (i + 1)) pe (P.are L g xs S T (start - 1) (omega arith)) in
                      inr (fits_less L (size_at g xs start (r + 1)) (size_at g xs (start - 1) (r + 1)) (size_mono g xs (start - 1) start (r + 1) (r + 1) (omega arith) (le_refl (r + 1)))
                      (fit_under L g xs (start - 1) (r + 1) (r + 1) fe (omega arith) (le_refl (r + 1))))

pub counts_start : (fit greedy : List ℕ) → length greedy ≡ length fit → CountsFrom fit greedy (length fit)
counts_start fit greedy h = record {
  end = past;
  few = λ t p q. let e : t ≡ length fit = omega arith in rw (e, past) (omega arith);
  step = λ t p q. absurd (omega arith);
}
  where
    past : get_or greedy (length fit) 0 ≡ 0
    past = get_or-eq_default greedy 0 (let q : length greedy ≤ length fit = omega arith in q)

pub counts_more : (fit greedy : List ℕ) (s start : ℕ) → s + 1 ≡ start → start ≤ length fit → length greedy ≡ length fit → FitRange fit → CountsFrom fit greedy start
    → CountsFrom fit (set greedy s (get_or greedy (ends fit s) 0 + 1)) s
counts_more fit greedy s start e sn gl R C = record {
  end = other (length fit) (omega arith) ∙ C.end;
  few = λ t p q. at t p q (order t s);
  step = λ t p q. st t p q (order t s);
}
  where
    x : ℕ
    x = get_or greedy (ends fit s) 0 + 1

    other : (t : ℕ) → s < t → get_or (set greedy s (get_or greedy (ends fit s) 0 + 1)) t 0 ≡ get_or greedy t 0
    other t l = get_or-set_other greedy s t (get_or greedy (ends fit s) 0 + 1) 0 (omega arith)

    here : get_or (set greedy s (get_or greedy (ends fit s) 0 + 1)) s 0 ≡ get_or greedy (ends fit s) 0 + 1
    here = get_or-set_same greedy s (get_or greedy (ends fit s) 0 + 1) 0 (omega arith)

    past : s < ends fit s
    past = omega (arith, R.lo s (omega arith))

    at : (t : ℕ) → s ≤ t → t ≤ length fit → Order t s → get_or (set greedy s (get_or greedy (ends fit s) 0 + 1)) t 0 + t ≤ length fit
    at t p q (less l) = absurd (omega arith)
    at t p q (more l) = rw (other t l) (C.few t (omega arith) q)
    at t p q (same l) = rw (l, here) (omega (arith, C.few (ends fit s) (omega (arith, past)) (omega (arith, R.hi s (omega arith))), past))

    st : (t : ℕ) → s ≤ t → t < length fit → Order t s → get_or (set greedy s (get_or greedy (ends fit s) 0 + 1)) t 0 ≡ 1 + get_or (set greedy s (get_or greedy (ends fit s) 0 + 1)) (ends fit t) 0
    st t p q (less l) = absurd (omega arith)
    st t p q (more l) = rw (other t l, other (ends fit t) (omega (arith, R.lo t q))) (C.step t (omega arith) q)
    st t p q (same l) = rw (l, here, other (ends fit s) past) (omega arith)

pub counts_are : (fit greedy : List ℕ) → CountsFrom fit greedy 0 → GreedyCounts (length fit) (ends fit) (λ s. get_or greedy s 0)
counts_are fit greedy C = record { end = C.end; step = λ s h. C.step s (omega arith) h }

pub first_stop : (greedy : List ℕ) (lines r : ℕ) → Falling greedy → r ≤ length greedy → get_or greedy r 0 ≤ lines → (0 < r → lines < get_or greedy (r - 1) 0) → FirstFor greedy lines r
first_stop greedy lines r D h p q = record { enough = p; early = λ t l. omega (arith, q (omega arith), D.falls t (r - 1) (omega arith) (omega arith)) }

-- ---- how far the first lines reach, up to line i. `start` is the next cell
pub record ReachSoFar (fit reach : List ℕ) (start i : ℕ) : Type 0 where
  pub hi : start ≤ length fit
  pub next : (s : ℕ) → 0 < i → s ≤ get_or reach (i - 1) 0 → s < length fit → ends fit s ≤ start
  pub steps : (j s : ℕ) → j + 1 < i → s ≤ get_or reach j 0 → s < length fit → ends fit s ≤ get_or reach (j + 1) 0

pub reach_start : (fit reach : List ℕ) → ReachSoFar fit reach 0 0
reach_start fit reach = record { hi = omega arith; next = λ s h. absurd (omega arith); steps = λ j s h. absurd (omega arith) }

pub reach_more : (fit reach : List ℕ) (start to i : ℕ) → FitRange fit → Rising fit → i < length reach
    → (start < length fit → to ≡ ends fit start) → (length fit ≤ start → to ≡ start)
    → ReachSoFar fit reach start i → ReachSoFar fit (set reach i start) to (i + 1)
reach_more fit reach start to i F U il ni nx R = record {
  hi = top (lt_or_ge start (length fit));
  next = λ s _ h l. after s h l (lt_or_ge start (length fit));
  steps = λ j s l h g. old j s l h g (order (j + 1) i);
}
  where
    here : get_or (set reach i start) i 0 ≡ start
    here = get_or-set_same reach i start 0 il

    there : (j : ℕ) → j < i → get_or (set reach i start) j 0 ≡ get_or reach j 0
    there j h = get_or-set_other reach i j start 0 (omega arith)

    top : (start < length fit) ⊎ (length fit ≤ start) → to ≤ length fit
    top (inl l) = omega (arith, ni l, F.hi start l)
    top (inr l) = omega (arith, nx l, R.hi)

    after : (s : ℕ) → s ≤ get_or (set reach i start) (i + 1 - 1) 0 → s < length fit → (start < length fit) ⊎ (length fit ≤ start) → ends fit s ≤ to
    after s h g (inl l) =
        let e : i + 1 - 1 ≡ i = omega arith in
        let k : s ≤ get_or (set reach i start) i 0 = rw e at h in
        omega (arith, ni l, here, U.rises s start (omega (arith, here)) l)
    after s h g (inr l) = omega (arith, nx l, F.hi s g)

    old : (j s : ℕ) → j + 1 < i + 1 → s ≤ get_or (set reach i start) j 0 → s < length fit → Order (j + 1) i → ends fit s ≤ get_or (set reach i start) (j + 1) 0
    old j s l h g (less q) = rw (there (j + 1) q) (R.steps j s q (rw (there j (omega arith)) at h) g)
    old j s l h g (same q) =
        let e : i - 1 ≡ j = omega arith in
        rw (q, here) (R.next s (omega arith) (rw (e, ← (there j (omega arith))) h) g)
    old j s l h g (more q) = absurd (omega arith)

pub reach_end : (fit reach : List ℕ) (start i : ℕ) → length fit ≤ i → ReachSoFar fit reach start i → Reaches fit reach
reach_end fit reach start i h R = record { step = λ j s l p g. R.steps j s (omega arith) p g }

-- ---- cells that are filled from `lo` up
abbrev pub Filled : List Float → (ℕ → Float) → ℕ → ℕ → Type 0
Filled l f lo i = (s : ℕ) → lo ≤ s → s < i → get_or l s nan ≡ f s

pub filled_more : (l : List Float) (f : ℕ → Float) (lo i : ℕ) (x : Float) → i < length l → x ≡ f i → Filled l f lo i → Filled (set l i x) f lo (i + 1)
filled_more l f lo i x h e F s u p = go (order s i)
  where
    go : Order s i → get_or (set l i x) s nan ≡ f s
    go (less q) = get_or-set_other l i s x nan (omega arith) ∙ F s u q
    go (same q) = rw q (get_or-set_same l i x nan h ∙ e)
    go (more q) = absurd (omega arith)

-- ---- adding up: `acc` is the sum so far
pub record SumsSoFar (g : ℕ) (xs : List ℕ) (sums : List Float) (acc : Float) (i : ℕ) : Type 0 where
  pub acc_is : Holds acc (pre g xs i)
  pub sums_are : (j : ℕ) → j < i → Holds (get_or sums j nan) (pre g xs (suc j))

pub sums_more : (g : ℕ) (xs : List ℕ) (sums : List Float) (gapF size acc : Float) (i : ℕ) → i < length xs → i < length sums → pre g xs (length xs) ≤ 2 ^ 24
    → Holds gapF g → Holds size (get_or xs i 1) → SumsSoFar g xs sums acc i
    → SumsSoFar g xs (set sums i (add binary64 acc (add binary64 size gapF))) (add binary64 acc (add binary64 size gapF)) (i + 1)
sums_more g xs sums gapF size acc i h hl small gi si S = record { acc_is = rw add-one new; sums_are = λ j p. at j p (order j i) }
  where
    x : Float
    x = add binary64 acc (add binary64 size gapF)

    step : pre g xs (suc i) ≡ pre g xs i + (get_or xs i 1 + g)
    step = pre_step g xs i h

    top : pre g xs (suc i) ≤ pre g xs (length xs)
    top = pre_mono g xs (suc i) (length xs) h

    new : Holds (add binary64 acc (add binary64 size gapF)) (pre g xs (suc i))
    new = rw step (add_holds acc (add binary64 size gapF) (pre g xs i) (get_or xs i 1 + g) S.acc_is
        (add_holds size gapF (get_or xs i 1) g si gi (omega (arith, step, top, small))) (omega (arith, step, top, small)))

    at : (j : ℕ) → j < i + 1 → Order j i → Holds (get_or (set sums i (add binary64 acc (add binary64 size gapF))) j nan) (pre g xs (suc j))
    at j p (less l) = rw (get_or-set_other sums i j (add binary64 acc (add binary64 size gapF)) nan (let q : j ≢ i = omega arith in q)) (S.sums_are j l)
    at j p (same l) = rw (l, get_or-set_same sums i (add binary64 acc (add binary64 size gapF)) nan hl) new
    at j p (more l) = absurd (omega arith)
