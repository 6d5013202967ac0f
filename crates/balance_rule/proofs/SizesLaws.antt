-- Sums, where a line stops fitting, the laws that `Dp` asks for, and from positions back to the rule. Assumes nothing.
use mathlib.Core.Path.{◌≡◌, refl, sym, ap, ◌∙◌}
use mathlib.Core.Logic.{◌⊎◌, inl, inr}
use mathlib.Core.List.{List, [], ◌∷◌}
use Prim.Native.Nat.{ℕ, zero, suc, ◌+◌, ◌-◌, ◌*◌, ◌≤◌, ◌<◌, zero-le}
use native.Mathlib.Nat.{le_refl, add-zero, zero-add, suc-add, mul-add, add-mul, mul-le-mul, mul_comm}
use native.Mathlib.Decide.{dec_le, ℕ_discrete}
use native.Mathlib.Omega.{arith}
use lib.ListN.{length, get_or, take, drop, length-drop}
use lib.Seq.{drop-drop, get_or-drop}
use Rattle.balance_rule.specs.Natural.{Limit, max_content, definite, definite_below_0, Fits, line_size, Line, Valid, score, Better, Chosen}
use Rattle.balance_rule.specs.Dp.{Ok, ValidAt, score_at, BetterAt, BestAt, Laws}
use Rattle.balance_rule.proofs.DpLaws.{lt_or_ge}
use Rattle.balance_rule.specs.Sizes.{pre, size_at, square_at, FitEnd, GreedyCounts, ZeroAt}

-- ---- fitting
pub fits_less : (limit : Limit) (a b : ℕ) → a ≤ b → Fits limit b → Fits limit a
fits_less max_content a b l h = tt
fits_less (definite m) a b l h = omega arith
fits_less definite_below_0 a b l h = h

pub fits_dec : (limit : Limit) (a : ℕ) → Dec (Fits limit a)
fits_dec max_content a = yes tt
fits_dec (definite m) a = dec_le a m
fits_dec definite_below_0 a = no (λ h. h)

pub pre-drop : (gap : ℕ) (xs : List ℕ) (s c : ℕ) → pre gap xs (s + c) ≡ pre gap xs s + pre gap (drop s xs) c
pre-drop gap xs zero c = rw (zero-add, zero-add)
pre-drop gap [] (suc s) zero = rw (add-zero, zero-add)
pre-drop gap [] (suc s) (suc c) = rw (suc-add, zero-add)
pre-drop gap (x ∷ xs) (suc s) c = rw suc-add (omega (arith, pre-drop gap xs s c))

pub pre_step : (gap : ℕ) (xs : List ℕ) (i : ℕ) → i < length xs → pre gap xs (suc i) ≡ pre gap xs i + (get_or xs i 1 + gap)
pre_step gap [] i h = absurd (omega arith)
pre_step gap (x ∷ xs) zero h = omega arith
pre_step gap (x ∷ xs) (suc i) h = omega (arith, pre_step gap xs i (omega arith))

pub pre_mono : (gap : ℕ) (xs : List ℕ) (s t : ℕ) → s ≤ t → pre gap xs s ≤ pre gap xs t
pre_mono gap xs s t h =
    let e : s + (t - s) ≡ t = omega arith in
    omega (arith, rw e at (pre-drop gap xs s (t - s)))

-- a line's size with one gap more is its sum
pub line_pre : (gap : ℕ) (xs : List ℕ) (c : ℕ) → 0 < c → c ≤ length xs → line_size gap (take c xs) + gap ≡ pre gap xs c
line_pre gap xs zero p h = absurd (omega arith)
line_pre gap [] (suc c) p h = absurd (omega arith)
line_pre gap (x ∷ xs) (suc zero) p h = omega arith
line_pre gap (x ∷ []) (suc (suc c)) p h = absurd (omega arith)
line_pre gap (x ∷ (y ∷ r)) (suc (suc c)) p h = omega (arith, line_pre gap (y ∷ r) (suc c) (omega arith) (omega arith))

pub line_size_lem : (gap : ℕ) (xs : List ℕ) (s c : ℕ) → 0 < c → s + c ≤ length xs → line_size gap (take c (drop s xs)) ≡ size_at gap xs s (s + c)
line_size_lem gap xs s c p h =
    omega (arith, line_pre gap (drop s xs) c p (omega (arith, length-drop s xs)), pre-drop gap xs s c)

-- with at least one item a line's sum holds its gap
pub pre_gap : (gap : ℕ) (xs : List ℕ) (s t : ℕ) → s < t → t ≤ length xs → pre gap xs s + gap ≤ pre gap xs t
pre_gap gap xs s t l h = omega (arith, pre_step gap xs s (omega arith), pre_mono gap xs (suc s) t (omega arith))

pub size_mono : (gap : ℕ) (xs : List ℕ) (s s' t t' : ℕ) → s ≤ s' → t' ≤ t → size_at gap xs s' t' ≤ size_at gap xs s t
size_mono gap xs s s' t t' l h = omega (arith, pre_mono gap xs s s' l, pre_mono gap xs t' t h)

-- ---- the quadrangle inequality: a ≤ b, and both longer by d
square_grows : (a b d : ℕ) → a ≤ b → b * b + (a + d) * (a + d) ≤ (b + d) * (b + d) + a * a
square_grows a b d h =
    let ad : a * d ≤ b * d = mul-le-mul h (le_refl d) in
    simp (mul-add, add-mul, mul_comm d a, mul_comm d b) (omega arith)

pub quad : (gap : ℕ) (xs : List ℕ) (s s' t t' : ℕ) → s ≤ s' → s' < t → t ≤ t' → t' ≤ length xs
    → square_at gap xs s t + square_at gap xs s' t' ≤ square_at gap xs s t' + square_at gap xs s' t
quad gap xs s s' t t' a b c d =
    let p : size_at gap xs s' t' ≡ size_at gap xs s' t + (pre gap xs t' - pre gap xs t) = omega (arith, pre_gap gap xs s' t b (omega arith), pre_mono gap xs t t' c) in
    let q : size_at gap xs s t' ≡ size_at gap xs s t + (pre gap xs t' - pre gap xs t) = omega (arith, pre_gap gap xs s t (omega arith) (omega arith), pre_mono gap xs t t' c) in
    rw (p, q) (square_grows (size_at gap xs s' t) (size_at gap xs s t) (pre gap xs t' - pre gap xs t) (size_mono gap xs s s' t t a (le_refl t)))

module _ (limit : Limit) (gap : ℕ) (xs : List ℕ) where
  -- a longer line than f does not fit, and one of two or more items up to f does
  pub fit_over : (s f t : ℕ) → FitEnd limit gap xs s f → f < t → t ≤ length xs → ¬ Fits limit (size_at gap xs s t)
  fit_over s f t e l h g = e.full (omega arith) (fits_less limit (size_at gap xs s (f + 1)) (size_at gap xs s t) (size_mono gap xs s s t (f + 1) (le_refl s) (omega arith)) g)

  pub fit_under : (s f t : ℕ) → FitEnd limit gap xs s f → s + 1 < t → t ≤ f → Fits limit (size_at gap xs s t)
  fit_under s f t e l h = go e.fit
    where
      go : (f ≡ s + 1) ⊎ Fits limit (size_at gap xs s f) → Fits limit (size_at gap xs s t)
      go (inl q) = absurd (omega arith)
      go (inr q) = fits_less limit (size_at gap xs s t) (size_at gap xs s f) (size_mono gap xs s s f t (le_refl s) h) q

  -- a later start reaches no less far
  pub fit_mono : (s s' f f' : ℕ) → s ≤ s' → FitEnd limit gap xs s f → FitEnd limit gap xs s' f' → f ≤ f'
  fit_mono s s' f f' l a b = go (lt_or_ge f' f)
    where
      go : (f' < f) ⊎ (f ≤ f') → f ≤ f'
      go (inr g) = g
      go (inl g) =
          let p : s' < f' = b.lo in
          let q : f ≤ length xs = a.hi in
          absurd (b.full (omega arith) (fits_less limit (size_at gap xs s' (f' + 1)) (size_at gap xs s f) (size_mono gap xs s s' f (f' + 1) l (omega arith)) (fit_under s f f a (omega arith) (le_refl f))))

  pub fit_one : (s f f' : ℕ) → FitEnd limit gap xs s f → FitEnd limit gap xs s f' → f ≡ f'
  fit_one s f f' a b = omega (arith, fit_mono s s f f' (le_refl s) a b, fit_mono s s f' f (le_refl s) b a)

  module _ (F G : ℕ → ℕ) (fe : (s : ℕ) → s < length xs → FitEnd limit gap xs s (F s)) (gc : GreedyCounts (length xs) F G) where
    -- THE LAWS THAT THE DYNAMIC PROGRAM ASKS FOR
    pub laws : Laws (length xs) F G (ZeroAt xs) (square_at gap xs)
    laws = record {
      f_lo = λ s h. (fe s h).lo;
      f_hi = λ s h. (fe s h).hi;
      f_mono = λ s t l h. fit_mono s t (F s) (F t) l (fe s (omega arith)) (fe t h);
      g_end = gc.end;
      g_step = gc.step;
      Z? = λ t. ℕ_discrete (get_or xs t 1) 0;
      quad = quad gap xs;
    }

    -- one line, by the rule and by position
    pub line→ok : (s c k : ℕ) → s ≤ length xs → Line limit gap (drop s xs) c k → Ok (length xs) F (ZeroAt xs) s (s + c) k
    line→ok s c k sn h = record { some = omega arith; inside = tn; fit = reach h.fit; glue = λ l z. stay l (h.zeros (omega (arith, len)) (get_or-drop s xs c 1 ∙ z)) }
      where
        len : length (drop s xs) ≡ length xs - s
        len = length-drop s xs

        c0 : 0 < c
        c0 = h.positive

        tn : s + c ≤ length xs
        tn = omega (arith, h.enough, len)

        f : FitEnd limit gap xs s (F s)
        f = fe s (omega (arith, tn, c0))

        reach : (c ≡ 1) ⊎ Fits limit (line_size gap (take c (drop s xs))) → s + c ≤ F s
        reach (inl e) = omega (arith, f.lo)
        reach (inr e) = go (lt_or_ge (F s) (s + c))
          where
            go : (F s < s + c) ⊎ (s + c ≤ F s) → s + c ≤ F s
            go (inl g) = absurd (fit_over s (F s) (s + c) f g tn (rw (line_size_lem gap xs s c c0 tn) at e))
            go (inr g) = g

        stay : s + c < length xs → (¬ Fits limit (line_size gap (take (c + 1) (drop s xs)))) ⊎ (length (drop s xs) - (c + 1) < k) → (F s ≤ s + c) ⊎ (length xs < s + c + 1 + k)
        stay l (inr e) = inr (omega (arith, len))
        stay l (inl e) = inl (go (lt_or_ge (s + c) (F s)))
          where
            go : (s + c < F s) ⊎ (F s ≤ s + c) → F s ≤ s + c
            go (inl g) = absurd (e (rw (line_size_lem gap xs s (c + 1) (omega arith) (omega arith)) (fit_under s (F s) (s + (c + 1)) f (omega arith) (omega arith))))
            go (inr g) = g

    pub ok→line : (s c k : ℕ) → Ok (length xs) F (ZeroAt xs) s (s + c) k → Line limit gap (drop s xs) c k
    ok→line s c k o = record { positive = c0; enough = omega (arith, len); fit = fits' (lt_or_ge 1 c); zeros = λ l z. stay (omega (arith, len)) (o.glue (omega (arith, len)) (sym (get_or-drop s xs c 1) ∙ z)) }
      where
        len : length (drop s xs) ≡ length xs - s
        len = length-drop s xs

        tn : s + c ≤ length xs
        tn = o.inside

        c0 : 0 < c
        c0 = omega (arith, o.some)

        f : FitEnd limit gap xs s (F s)
        f = fe s (omega (arith, tn, c0))

        fits' : (1 < c) ⊎ (c ≤ 1) → (c ≡ 1) ⊎ Fits limit (line_size gap (take c (drop s xs)))
        fits' (inl g) = inr (rw (line_size_lem gap xs s c c0 tn) (fit_under s (F s) (s + c) f (omega arith) o.fit))
        fits' (inr g) = inl (omega arith)

        stay : s + c < length xs → (F s ≤ s + c) ⊎ (length xs < s + c + 1 + k) → (¬ Fits limit (line_size gap (take (c + 1) (drop s xs)))) ⊎ (length (drop s xs) - (c + 1) < k)
        stay l (inl g) = inl (λ e. fit_over s (F s) (s + (c + 1)) f (omega arith) (omega arith) (rw (line_size_lem gap xs s (c + 1) (omega arith) (omega arith)) at e))
        stay l (inr g) = inr (omega (arith, len))

    -- divisions, by the rule and by position
    pub valid→at : (s : ℕ) (d : List ℕ) → s ≤ length xs → Valid limit gap (drop s xs) d → ValidAt (length xs) F (ZeroAt xs) s d
    valid→at s [] h v = omega (arith, length-drop s xs, ap length v)
    valid→at s (c ∷ d) h (l, v) = (o, valid→at (s + c) d o.inside (rw drop-drop at v))
      where
        o : Ok (length xs) F (ZeroAt xs) s (s + c) (length d)
        o = line→ok s c (length d) h l

    pub at→valid : (s : ℕ) (d : List ℕ) → ValidAt (length xs) F (ZeroAt xs) s d → Valid limit gap (drop s xs) d
    at→valid s [] v = empty (drop s xs) (omega (arith, length-drop s xs))
      where
        empty : (l : List ℕ) → length l ≡ 0 → l ≡ []
        empty [] e = refl
        empty (x ∷ l) e = absurd (omega arith)
    at→valid s (c ∷ d) (o, v) = (ok→line s c (length d) o, rw drop-drop (at→valid (s + c) d v))

    pub score_at_lem : (s : ℕ) (d : List ℕ) → ValidAt (length xs) F (ZeroAt xs) s d → score gap (drop s xs) d ≡ score_at (square_at gap xs) s d
    score_at_lem s [] v = refl
    score_at_lem s (c ∷ d) (o, v) =
        let e : line_size gap (take c (drop s xs)) ≡ size_at gap xs s (s + c) = line_size_lem gap xs s c (omega (arith, o.some)) o.inside in
        rw (e, drop-drop) (ap (λ (x : ℕ). square_at gap xs s (s + c) + x) (score_at_lem (s + c) d v))

    -- THE CHOICE BY POSITION IS THE CHOSEN DIVISION
    pub chosen : (k : ℕ) (d : List ℕ) → BestAt (length xs) F (ZeroAt xs) (square_at gap xs) 0 k d → Chosen limit gap xs k d
    chosen k d b = record {
      valid = at→valid 0 d b.valid;
      lines = b.lines;
      best = λ e v l. go e (valid→at 0 e zero-le v) (b.best e (valid→at 0 e zero-le v) l);
    }
      where
        go : (e : List ℕ) → ValidAt (length xs) F (ZeroAt xs) 0 e → (d ≡ e) ⊎ BetterAt (square_at gap xs) 0 d e → (d ≡ e) ⊎ Better gap xs d e
        go e v (inl p) = inl p
        go e v (inr (inl p)) = inr (inl (omega (arith, score_at_lem 0 d b.valid, score_at_lem 0 e v)))
        go e v (inr (inr p)) = inr (inr (omega (arith, score_at_lem 0 d b.valid, score_at_lem 0 e v), p.1))
