-- The steps of the code's loops and branches, on plain lists and numbers. Assumes nothing.
use mathlib.Core.Path.{◌≡◌, refl, sym, ap, subst, ◌∙◌}
use mathlib.Core.Logic.{◌⊎◌, inl, inr}
use mathlib.Core.List.{List, [], ◌∷◌}
use mathlib.Core.Bool.{Bool, true, false, cond, true≢false}
use Prim.Native.Nat.{ℕ, suc, ◌+◌, ◌-◌, ◌*◌, ◌^◌, ◌≤◌, ◌<◌, zero-le, min, max}
use native.Mathlib.Nat.{le_refl, eq-or-lt_of_le, mul-le-mul, mul-add, add-mul}
use native.Mathlib.Omega.{arith}
use lib.ListN.{length, get_or, set}
use lib.Seq.{get_or-set_same, get_or-set_other}
use lib.Ieee.{Float, nan, binary64, sub, mul, le}
use native.Mathlib.Numerals.{add-one}
use Rattle.balance_rule.specs.Dp.{Argmin, ValidAt, score_at, Feas, Laws, Nonzero}
use Rattle.balance_rule.proofs.DpLaws.{Order, order, less, same, more, far, far_ok, merge_plain, merge_only, merge_far, merge_near}
use Rattle.balance_rule.proofs.EndsLaws.{Scan, scan_none, scan_some, narrow_left, narrow_right, skip_right}
use Rattle.balance_rule.specs.Sizes.{pre, size_at, square_at, ZeroAt}
use Rattle.balance_rule.proofs.SizesLaws.{laws, pre_mono, pre_step}
use Rattle.balance_sums.specs.Whole.{Holds}
use Rattle.balance_sums.specs.Sums.{base_f, ends}
use Rattle.balance_sums.proofs.SumsLaws.{base_holds}
use Rattle.balance_sums.proofs.WholeLaws.{add_holds, sub_holds, mul_holds, le_true, le_false, eq_true, eq_false}
use Rattle.balance_choice.specs.Cells.{cost_f, zero_f, choose_f, Ghost, value, Stands, StartReady, RowIn, Choice, CoversIn, Safe, EndsFeas, FirstPlain, LeastOf, PickOut, RowOut}
use Rattle.balance_choice.proofs.CellsLaws.{NearChoice}

bool_case : (b : Bool) → (b ≡ true) ⊎ (b ≡ false)
bool_case true = inl refl
bool_case false = inr refl

-- ---- the scan of a start's ends: `best` leads among those before `end`
pub record Leading (sums : List Float) (gap : Float) (prev : List Float) (base : Float) (first stop end best : ℕ) (x : Float) : Type 0 where
  pub lo : first ≤ best
  pub hi : best < end
  pub end_hi : end ≤ stop
  pub cost_is : x ≡ cost_f sums prev base best
  pub least : (c : ℕ → ℕ) → ((e : ℕ) → first ≤ e → e < stop → Holds (cost_f sums prev base e) (c e)) → Argmin (λ e. (first ≤ e) × (e < end) × (zero_f sums gap e ≡ false)) c best

-- what the code's test says
beats_yes : (z b : Bool) → cond z false b ≡ true → (z ≡ false) × (b ≡ true)
beats_yes false true h = (refl, refl)
beats_yes false false h = absurd (true≢false (sym h))
beats_yes true b h = absurd (true≢false (sym h))

beats_no : (z b : Bool) → cond z false b ≡ false → (z ≡ true) ⊎ (b ≡ false)
beats_no false true h = absurd (true≢false h)
beats_no false false h = inr refl
beats_no true b h = inl refl

module _ {sums : List Float} {gap : Float} {prev : List Float} {base : Float} {first stop : ℕ} where
  pub lead_start : (x : Float) → first < stop → zero_f sums gap first ≡ false → x ≡ cost_f sums prev base first → Leading sums gap prev base first stop (first + 1) first x
  lead_start x h z e = record {
    lo = le_refl first;
    hi = omega arith;
    end_hi = omega arith;
    cost_is = e;
    least = λ c g. record {
      has = (le_refl first, omega arith, z);
      least = λ u p. let i : u ≡ first = omega (arith, p.0, p.1) in rw i (le_refl (c first));
      last = λ u p l. absurd (omega (arith, p.0, p.1));
    };
  }

  module _ {end best : ℕ} {x y : Float} (L : Leading sums gap prev base first stop end best x) (es : end < stop) (ye : y ≡ cost_f sums prev base end) where
    pub lead_take : cond (zero_f sums gap end) false (le y x) ≡ true → Leading sums gap prev base first stop (end + 1) end y
    lead_take t = record {
      lo = omega (arith, L.lo, L.hi);
      hi = omega arith;
      end_hi = omega arith;
      cost_is = ye;
      least = λ c g. take c g;
    }
      where
        take : (c : ℕ → ℕ) → ((e : ℕ) → first ≤ e → e < stop → Holds (cost_f sums prev base e) (c e)) → Argmin (λ e. (first ≤ e) × (e < end + 1) × (zero_f sums gap e ≡ false)) c end
        take c g = record {
          has = (omega (arith, L.lo, L.hi), omega arith, (beats_yes (zero_f sums gap end) (le y x) t).0);
          least = λ u p. at u p (eq-or-lt_of_le (let q : u ≤ end = omega (arith, p.1) in q));
          last = λ u p l. absurd (omega (arith, p.1));
        }
          where
            below : c end ≤ c best
            below = le_true y x (c end) (c best) (rw ye (g end (omega (arith, L.lo, L.hi)) es)) (rw L.cost_is (g best L.lo (omega (arith, L.hi)))) (beats_yes (zero_f sums gap end) (le y x) t).1

            at : (u : ℕ) → (first ≤ u) × (u < end + 1) × (zero_f sums gap u ≡ false) → (u ≡ end) ⊎ (u < end) → c end ≤ c u
            at u p (inl e) = rw e (le_refl (c end))
            at u p (inr e) = omega (arith, (L.least c g).least u (p.0, e, p.2), below)

    pub lead_keep : cond (zero_f sums gap end) false (le y x) ≡ false → Leading sums gap prev base first stop (end + 1) best x
    lead_keep t = record {
      lo = L.lo;
      hi = omega (arith, L.hi);
      end_hi = omega arith;
      cost_is = L.cost_is;
      least = λ c g. keep c g;
    }
      where
        keep : (c : ℕ → ℕ) → ((e : ℕ) → first ≤ e → e < stop → Holds (cost_f sums prev base e) (c e)) → Argmin (λ e. (first ≤ e) × (e < end + 1) × (zero_f sums gap e ≡ false)) c best
        keep c g = record {
          has = (L.lo, omega (arith, L.hi), (L.least c g).has.2);
          least = λ u p. at u p (eq-or-lt_of_le (let q : u ≤ end = omega (arith, p.1) in q));
          last = λ u p l. at' u p l (eq-or-lt_of_le (let q : u ≤ end = omega (arith, p.1) in q));
        }
          where
            above : zero_f sums gap end ≡ false → c best < c end
            above z = go (beats_no (zero_f sums gap end) (le y x) t)
              where
                go : (zero_f sums gap end ≡ true) ⊎ (le y x ≡ false) → c best < c end
                go (inr h) = le_false y x (c end) (c best) (rw ye (g end (omega (arith, L.lo, L.hi)) es)) (rw L.cost_is (g best L.lo (omega (arith, L.hi)))) h
                go (inl h) = absurd (true≢false (sym h ∙ z))

            at : (u : ℕ) → (first ≤ u) × (u < end + 1) × (zero_f sums gap u ≡ false) → (u ≡ end) ⊎ (u < end) → c best ≤ c u
            at u p (inl e) = rw e (omega (arith, above (rw e at p.2)))
            at u p (inr e) = (L.least c g).least u (p.0, e, p.2)

            at' : (u : ℕ) → (first ≤ u) × (u < end + 1) × (zero_f sums gap u ≡ false) → best < u → (u ≡ end) ⊎ (u < end) → c best < c u
            at' u p l (inl e) = rw e (above (rw e at p.2))
            at' u p l (inr e) = (L.least c g).last u (p.0, e, p.2) l

  pub lead_end : {end best : ℕ} {x : Float} → Leading sums gap prev base first stop end best x → stop ≤ end → LeastOf sums gap prev base first stop best
  lead_end {end} {best} L h =
      let e : end ≡ stop = omega (arith, L.end_hi) in
      record { lo = L.lo; hi = omega (arith, L.hi); least = λ c g. subst (λ (i : ℕ). Argmin (λ e. (first ≤ e) × (e < i) × (zero_f sums gap e ≡ false)) c best) e (L.least c g) }

-- ---- totals

-- the total of a division's squares is at most the square of the whole
squares : (a b c : ℕ) → a + b ≤ c → a * a + b * b ≤ c * c
squares a b c h =
    let p : (a + b) * (a + b) ≤ c * c = mul-le-mul h h in
    let q : (a + b) * (a + b) ≡ a * a + b * a + (a * b + b * b) = mul-add (a + b) a b ∙ rw (add-mul a b a, add-mul a b b) refl in
    omega arith

pub score-le : (gap : ℕ) (xs : List ℕ) (F : ℕ → ℕ) (s : ℕ) (d : List ℕ) → ValidAt (length xs) F (ZeroAt xs) s d
    → score_at (square_at gap xs) s d ≤ (pre gap xs (length xs) - pre gap xs s) * (pre gap xs (length xs) - pre gap xs s)
score-le gap xs F s [] v = zero-le
score-le gap xs F s (c ∷ d) (o, v) =
    let ih = score-le gap xs F (s + c) d v in
    let a = size_at gap xs s (s + c) in
    let b = pre gap xs (length xs) - pre gap xs (s + c) in
    omega (arith, ih, squares a b (pre gap xs (length xs) - pre gap xs s) (omega (arith, pre_mono gap xs s (s + c) (omega (arith, o.some)), pre_mono gap xs (s + c) (length xs) o.inside)))

pub small_square : (a b : ℕ) → a ≤ b → b ≤ 2 ^ 24 → a * a ≤ 2 ^ 48
small_square a b h l = mul-le-mul {n₁ = a} {m₁ = a} {n₂ = 2 ^ 24} {m₂ = 2 ^ 24} (omega arith) (omega arith)

-- ---- a row's numbers
module _ (q : Ghost) (sums : List Float) (gap : Float) (fit : List ℕ) (prev : List Float) (maxEnd : ℕ) (R : RowIn q sums gap fit prev maxEnd) where
  pub row_laws : Laws (length q.xs) (ends fit) q.G (ZeroAt q.xs) (square_at q.gap q.xs)
  row_laws = laws q.limit q.gap q.xs (ends fit) q.G R.fits_are R.greedy

  -- what a first line leaves stands in the row below
  pub stands : (s e : ℕ) → StartReady q fit s → s ≤ e → e + 1 ≤ ends fit s → Feas (length q.xs) q.G (e + 1) q.k → Stands q (e + 1)
  stands s e r l h f = record { feas = f; from = omega (arith, r.from); to = omega (arith, r.to) }

  pub cost_holds : (s e : ℕ) → s ≤ e → Stands q (e + 1) → Holds (cost_f sums prev (base_f sums gap s) e) (square_at q.gap q.xs s (e + 1) + value prev (e + 1))
  cost_holds s e l st = add_holds (mul binary64 z z) (get_or prev (e + 1) nan) (square_at q.gap q.xs s (e + 1)) (value prev (e + 1)) square (R.prev_hold (e + 1) st) (omega (arith, low, high))
    where
      z : Float
      z = sub binary64 (get_or sums e nan) (base_f sums gap s)

      en : e < length q.xs
      en = omega (arith, st.feas.room, R.some_after)

      size : Holds (sub binary64 (get_or sums e nan) (base_f sums gap s)) (size_at q.gap q.xs s (e + 1))
      size = rw add-one (base_holds sums gap q.gap q.xs R.gap_is R.sums_are R.small s e l en)

      whole_size : size_at q.gap q.xs s (e + 1) ≤ pre q.gap q.xs (length q.xs)
      whole_size = omega (arith, pre_mono q.gap q.xs (e + 1) (length q.xs) (omega (arith, st.feas.room)))

      low : square_at q.gap q.xs s (e + 1) ≤ 2 ^ 48
      low = small_square (size_at q.gap q.xs s (e + 1)) (pre q.gap q.xs (length q.xs)) whole_size R.small

      square : Holds (mul binary64 (sub binary64 (get_or sums e nan) (base_f sums gap s)) (sub binary64 (get_or sums e nan) (base_f sums gap s))) (square_at q.gap q.xs s (e + 1))
      square = mul_holds (sub binary64 (get_or sums e nan) (base_f sums gap s)) (sub binary64 (get_or sums e nan) (base_f sums gap s)) (size_at q.gap q.xs s (e + 1)) (size_at q.gap q.xs s (e + 1)) size size (omega (arith, low))

      high : value prev (e + 1) ≤ 2 ^ 48
      high =
          let c = R.prev_are (e + 1) st in
          let d = pre q.gap q.xs (length q.xs) - pre q.gap q.xs (e + 1) in
          omega (arith, c.total, score-le q.gap q.xs (ends fit) (e + 1) c.division c.best.valid, small_square d (pre q.gap q.xs (length q.xs)) (omega arith) R.small)

  -- the test for a zero item
  module _ (e : ℕ) (h : e + 1 < length q.xs) where
    next_holds : Holds (sub binary64 (get_or sums (e + 1) nan) (get_or sums e nan)) (get_or q.xs (e + 1) 1 + q.gap)
    next_holds =
        let a : pre q.gap q.xs (suc (e + 1)) ≤ pre q.gap q.xs (length q.xs) = pre_mono q.gap q.xs (suc (e + 1)) (length q.xs) h in
        let b : pre q.gap q.xs (suc (e + 1)) ≡ pre q.gap q.xs (e + 1) + (get_or q.xs (e + 1) 1 + q.gap) = pre_step q.gap q.xs (e + 1) h in
        let c : pre q.gap q.xs (e + 1) ≡ pre q.gap q.xs (suc e) = ap (pre q.gap q.xs) (add-one e) in
        let x : Holds (sub binary64 (get_or sums (e + 1) nan) (get_or sums e nan)) (pre q.gap q.xs (suc (e + 1)) - pre q.gap q.xs (suc e)) =
        sub_holds (get_or sums (e + 1) nan) (get_or sums e nan) (pre q.gap q.xs (suc (e + 1))) (pre q.gap q.xs (suc e)) (R.sums_are (e + 1) h) (R.sums_are e (omega arith)) (omega arith) (omega (arith, R.small)) in
        let y : pre q.gap q.xs (suc (e + 1)) - pre q.gap q.xs (suc e) ≡ get_or q.xs (e + 1) 1 + q.gap = omega arith in
        subst (Holds (sub binary64 (get_or sums (e + 1) nan) (get_or sums e nan))) y x

    pub zero-yes : zero_f sums gap e ≡ true → ZeroAt q.xs (e + 1)
    zero-yes t = omega (arith, eq_true (sub binary64 (get_or sums (e + 1) nan) (get_or sums e nan)) gap (get_or q.xs (e + 1) 1 + q.gap) q.gap next_holds R.gap_is t)

    pub zero_no : zero_f sums gap e ≡ false → ¬ ZeroAt q.xs (e + 1)
    zero_no t z = eq_false (sub binary64 (get_or sums (e + 1) nan) (get_or sums e nan)) gap (get_or q.xs (e + 1) 1 + q.gap) q.gap next_holds R.gap_is t (omega (arith, z))

    pub zero_not : ¬ ZeroAt q.xs (e + 1) → zero_f sums gap e ≡ false
    zero_not z = go (bool_case (zero_f sums gap e))
      where
        go : (zero_f sums gap e ≡ true) ⊎ (zero_f sums gap e ≡ false) → zero_f sums gap e ≡ false
        go (inl t) = absurd (z (zero-yes t))
        go (inr t) = t

  -- ---- the far end
  module _ (s : ℕ) (r : StartReady q fit s) (to : ℕ) (te : to ≡ min (get_or fit s 0) maxEnd) where
    pub far_is : to + 1 ≡ far (length q.xs) (ends fit) s q.k
    far_is = omega (arith, R.max_end)

    pub far_feas : Feas (length q.xs) q.G (to + 1) q.k
    far_feas = rw far_is (far_ok (length q.xs) (ends fit) q.G (ZeroAt q.xs) (square_at q.gap q.xs) row_laws s q.k r.feas).1

    pub far_start : s ≤ to
    far_start = omega (arith, far_is, (far_ok (length q.xs) (ends fit) q.G (ZeroAt q.xs) (square_at q.gap q.xs) row_laws s q.k r.feas).0.some)

    -- no nonzero end: the far end
    pub choose_only : ((t : ℕ) → ¬ Nonzero (length q.xs) (ends fit) q.G (ZeroAt q.xs) q.k s t) → Choice q fit prev s to
    choose_only h = rw far_is (merge_only (length q.xs) (ends fit) q.G (ZeroAt q.xs) (square_at q.gap q.xs) row_laws q.k s R.some_after r.feas (λ t. square_at q.gap q.xs s t + value prev t) h)

    module _ (near : ℕ) (A : NearChoice q fit prev s near) where
      to_next : to + 1 < length q.xs
      to_next = omega (arith, far_feas.room, R.some_after)

      abbrev near_f : Float
      near_f = cost_f sums prev (base_f sums gap s) near

      abbrev far_f : Float
      far_f = cost_f sums prev (base_f sums gap s) to

      abbrev near_n : ℕ
      near_n = square_at q.gap q.xs s (near + 1) + value prev (near + 1)

      abbrev far_n : ℕ
      far_n = square_at q.gap q.xs s (to + 1) + value prev (to + 1)

      choose_plain : zero_f sums gap to ≡ false → Choice q fit prev s near
      choose_plain t = merge_plain (length q.xs) (ends fit) q.G (ZeroAt q.xs) (square_at q.gap q.xs) row_laws q.k s R.some_after r.feas (λ t. square_at q.gap q.xs s t + value prev t)
          (rw (← far_is) (zero_no to to_next t)) (near + 1) A

      near_holds : Holds near_f near_n
      near_holds =
          let l : s ≤ near = omega (arith, A.has.usable.ok.some) in
          cost_holds s near l (stands s near r l A.has.usable.ok.fit A.has.usable.feas)

      far_holds : Holds far_f far_n
      far_holds = cost_holds s to far_start (stands s to r far_start (omega arith) far_feas)

      choose_near : le far_f near_f ≡ false → Choice q fit prev s near
      choose_near t = merge_near (length q.xs) (ends fit) q.G (ZeroAt q.xs) (square_at q.gap q.xs) row_laws q.k s R.some_after r.feas (λ t. square_at q.gap q.xs s t + value prev t) (near + 1) A
          (inl (rw (← far_is) (le_false far_f near_f far_n near_n far_holds near_holds t)))

      choose_far : zero_f sums gap to ≡ true → le far_f near_f ≡ true → Choice q fit prev s to
      choose_far z t = rw far_is (merge_far (length q.xs) (ends fit) q.G (ZeroAt q.xs) (square_at q.gap q.xs) row_laws q.k s R.some_after r.feas (λ t. square_at q.gap q.xs s t + value prev t) (near + 1) A
          (rw (← far_is) (either (eq-or-lt_of_le (le_true far_f near_f far_n near_n far_holds near_holds t)))))
        where
          before : near + 1 < to + 1
          before = go (order (near + 1) (to + 1))
            where
              go : Order (near + 1) (to + 1) → near + 1 < to + 1
              go (less l) = l
              go (same l) = absurd (A.has.nonzero (rw l (zero-yes to to_next z)))
              go (more l) = absurd (omega (arith, far_is, A.has.usable.ok.fit, A.has.usable.feas.room))

          either : (far_n ≡ near_n) ⊎ (far_n < near_n) → (far_n < near_n) ⊎ ((far_n ≡ near_n) × (near + 1 < to + 1))
          either (inl h) = inr (h, before)
          either (inr h) = inl h

      pub choose_is : Choice q fit prev s (choose_f sums gap prev (base_f sums gap s) near to)
      choose_is = go (zero_f sums gap to) (le far_f near_f) refl refl
        where
          go : (z b : Bool) → zero_f sums gap to ≡ z → le far_f near_f ≡ b → Choice q fit prev s (cond z (cond b to near) near)
          go true true h g = choose_far h g
          go true false h g = choose_near g
          go false b h g = choose_plain h

pub choose_one : (P : ℕ → Type 0) (z b : Bool) (near to : ℕ) → P near → P to → P (cond z (cond b to near) near)
choose_one P true true near to p q = q
choose_one P true false near to p q = p
choose_one P false b near to p q = p

-- ---- one start's choice
pub to_lo : {sums : List Float} {fit : List ℕ} {prev : List Float} {maxEnd b s to : ℕ} → Safe sums fit prev maxEnd b → s ≤ maxEnd → to ≡ min (get_or fit s 0) maxEnd → s ≤ to
to_lo {s = s} S sm te = omega (arith, S.fit_lo s (omega (arith, S.room)))

pub to_hi : (fit : List ℕ) (s : ℕ) {maxEnd to : ℕ} → to ≡ min (get_or fit s 0) maxEnd → to ≤ maxEnd
to_hi fit s te = omega arith

module _ {sums : List Float} {gap : Float} {fit : List ℕ} {prev : List Float} {maxEnd a b s first stop to : ℕ}
    (S : Safe sums fit prev maxEnd b) (sm : s ≤ maxEnd) (f : FirstPlain sums gap (max a s) stop first) (stop_is : stop ≡ min b (get_or fit s 0 + 1))
    (te : to ≡ min (get_or fit s 0) maxEnd) where
  module _ (q : Ghost) (R : RowIn q sums gap fit prev maxEnd) (EF : EndsFeas q a b) (r : StartReady q fit s) where
    scan_of : Scan (length q.xs) (ends fit) q.G (ZeroAt q.xs) (square_at q.gap q.xs) (row_laws q sums gap fit prev maxEnd R) (value prev) q.k s a b first stop
    scan_of = record {
      from_a = omega (arith, f.lo);
      from_s = omega (arith, f.lo);
      zeros = λ e p l h. zero-yes q sums gap fit prev maxEnd R e (omega (arith, f.hi (omega arith), S.reach, R.max_end, R.some_after)) (f.zeros e (omega arith) h);
      stop_is = stop_is;
      feas = EF.feas;
    }

    none_choice : CoversIn q fit prev a b s → stop ≤ first → Choice q fit prev s to
    none_choice H h = choose_only q sums gap fit prev maxEnd R s r to te
        (scan_none (length q.xs) (ends fit) q.G (ZeroAt q.xs) (square_at q.gap q.xs) (row_laws q sums gap fit prev maxEnd R) (value prev) q.k s a b first stop scan_of H h)

    near_choice : CoversIn q fit prev a b s → (near : ℕ) → LeastOf sums gap prev (base_f sums gap s) first stop near → NearChoice q fit prev s near
    near_choice H near l =
        scan_some (length q.xs) (ends fit) q.G (ZeroAt q.xs) (square_at q.gap q.xs) (row_laws q sums gap fit prev maxEnd R) (value prev) q.k s a b first stop scan_of H near (record {
          has = (A.has.0, A.has.1, zero_no q sums gap fit prev maxEnd R near (inside near A.has.1) A.has.2);
          least = λ u h. A.least u (h.0, h.1, zero_not q sums gap fit prev maxEnd R u (inside u h.1) h.2);
          last = λ u h. A.last u (h.0, h.1, zero_not q sums gap fit prev maxEnd R u (inside u h.1) h.2);
        })
      where
        inside : (e : ℕ) → e < stop → e + 1 < length q.xs
        inside e h = omega (arith, S.reach, R.max_end, R.some_after)

        A : Argmin (λ e. (first ≤ e) × (e < stop) × (zero_f sums gap e ≡ false)) (λ e. square_at q.gap q.xs s (e + 1) + value prev (e + 1)) near
        A = l.least (λ e. square_at q.gap q.xs s (e + 1) + value prev (e + 1))
            (λ e p h. cost_holds q sums gap fit prev maxEnd R s e (omega (arith, f.lo))
            (stands q sums gap fit prev maxEnd R s e r (omega (arith, f.lo)) (omega arith) (EF.feas e (omega (arith, f.lo)) (omega arith))))

  pub pick-none : stop ≤ first → PickOut sums gap fit prev maxEnd a b s to first b
  pick-none h = record {
    end_lo = to_lo S sm te;
    end_hi = to_hi fit s te;
    lo_lo = omega (arith, f.lo);
    hi_hi = le_refl b;
    choice = λ q R EF r H. (
      none_choice q R EF r H h,
      (λ u l g. g),
      (λ u l g. skip_right (length q.xs) (ends fit) q.G (ZeroAt q.xs) (square_at q.gap q.xs) (row_laws q sums gap fit prev maxEnd R) (value prev) q.k s a b first stop (scan_of q R EF r) u l g),
    );
  }

  pub pick_some : {near e : ℕ} → LeastOf sums gap prev (base_f sums gap s) first stop near → e ≡ choose_f sums gap prev (base_f sums gap s) near to
      → PickOut sums gap fit prev maxEnd a b s e near (near + 1)
  pick_some {near} {e} l ee = record {
    end_lo = rw ee (choose_one (λ (i : ℕ). s ≤ i) (zero_f sums gap to) (le (cost_f sums prev (base_f sums gap s) to) (cost_f sums prev (base_f sums gap s) near)) near to (omega (arith, f.lo, l.lo)) (to_lo S sm te));
    end_hi = rw ee (choose_one (λ (i : ℕ). i ≤ maxEnd) (zero_f sums gap to) (le (cost_f sums prev (base_f sums gap s) to) (cost_f sums prev (base_f sums gap s) near)) near to (omega (arith, l.hi, S.reach)) (to_hi fit s te));
    lo_lo = omega (arith, f.lo, l.lo);
    hi_hi = omega (arith, l.hi);
    choice = λ q R EF r H.
        let A : NearChoice q fit prev s near = near_choice q R EF r H near l in
        let L = row_laws q sums gap fit prev maxEnd R in (
          rw ee (choose_is q sums gap fit prev maxEnd R s r to te near A),
          (λ u g. narrow_left (length q.xs) (ends fit) q.G (ZeroAt q.xs) (square_at q.gap q.xs) L (value prev) q.k a b near s A u g),
          (λ u g. narrow_right (length q.xs) (ends fit) q.G (ZeroAt q.xs) (square_at q.gap q.xs) L (value prev) q.k a b near s A u g),
        );
  }

-- ---- a row
pub safe_part : (sums : List Float) (fit : List ℕ) (prev : List Float) (maxEnd b b' : ℕ) → b' ≤ b → Safe sums fit prev maxEnd b → Safe sums fit prev maxEnd b'
safe_part sums fit prev maxEnd b b' l S = record {
  few = S.few;
  sums_length = S.sums_length;
  fit_length = S.fit_length;
  room = S.room;
  reach = omega (arith, S.reach);
  fit_lo = S.fit_lo;
  fit_hi = S.fit_hi;
}

module _ {sums : List Float} {gap : Float} {fit : List ℕ} {prev : List Float} {maxEnd lo hi a b : ℕ} where
  pub row_empty : {cur : List Float} {opts : List ℕ} → hi ≤ lo → RowOut sums gap fit prev maxEnd lo hi a b cur cur opts opts
  row_empty h = record {
    cur_kept = λ s _. refl;
    opts_kept = λ s _. refl;
    filled = λ q R EF all s p l. absurd (omega arith);
  }

  module _ {cur cur₁ cur₂ : List Float} {opts opts₁ opts₂ : List ℕ} {s e right left : ℕ} {x : Float} (ls : lo ≤ s) (sh : s < hi) (sc : s < length cur) (so : s < length opts)
      (P : PickOut sums gap fit prev maxEnd a b s e right left) (xe : x ≡ cost_f sums prev (base_f sums gap s) e)
      (A : RowOut sums gap fit prev maxEnd lo s a left (set cur s x) cur₁ (set opts s e) opts₁)
      (B : RowOut sums gap fit prev maxEnd (s + 1) hi right b cur₁ cur₂ opts₁ opts₂) where
    pub row_step : RowOut sums gap fit prev maxEnd lo hi a b cur cur₂ opts opts₂
    row_step = record { cur_kept = cur_out; opts_kept = opts_out; filled = all_filled }
      where
        cur_out : (r : ℕ) → (r < lo) ⊎ (hi ≤ r) → get_or cur₂ r nan ≡ get_or cur r nan
        cur_out r (inl h) = B.cur_kept r (inl (omega arith)) ∙ A.cur_kept r (inl h) ∙ get_or-set_other cur s r x nan (omega arith)
        cur_out r (inr h) = B.cur_kept r (inr h) ∙ A.cur_kept r (inr (omega arith)) ∙ get_or-set_other cur s r x nan (omega arith)

        opts_out : (r : ℕ) → (r < lo) ⊎ (hi ≤ r) → get_or opts₂ r 0 ≡ get_or opts r 0
        opts_out r (inl h) = B.opts_kept r (inl (omega arith)) ∙ A.opts_kept r (inl h) ∙ get_or-set_other opts s r e 0 (omega arith)
        opts_out r (inr h) = B.opts_kept r (inr h) ∙ A.opts_kept r (inr (omega arith)) ∙ get_or-set_other opts s r e 0 (omega arith)

        cur_at : get_or cur₂ s nan ≡ x
        cur_at = B.cur_kept s (inl (omega arith)) ∙ A.cur_kept s (inr (le_refl s)) ∙ get_or-set_same cur s x nan sc

        opts_at : get_or opts₂ s 0 ≡ e
        opts_at = B.opts_kept s (inl (omega arith)) ∙ A.opts_kept s (inr (le_refl s)) ∙ get_or-set_same opts s e 0 so

        all_filled : (q : Ghost) → RowIn q sums gap fit prev maxEnd → EndsFeas q a b
            → ((r : ℕ) → lo ≤ r → r < hi → StartReady q fit r × CoversIn q fit prev a b r)
            → (r : ℕ) → lo ≤ r → r < hi
            → Choice q fit prev r (get_or opts₂ r 0) × Holds (get_or cur₂ r nan) (square_at q.gap q.xs r (ends opts₂ r) + value prev (ends opts₂ r))
        all_filled q R EF all r p l = go (order r s)
          where
            here : Choice q fit prev s e
                × ((r : ℕ) → r < s → CoversIn q fit prev a b r → CoversIn q fit prev a left r)
                × ((r : ℕ) → s < r → CoversIn q fit prev a b r → CoversIn q fit prev right b r)
            here = P.choice q R EF (all s ls sh).0 (all s ls sh).1

            go : Order r s → Choice q fit prev r (get_or opts₂ r 0) × Holds (get_or cur₂ r nan) (square_at q.gap q.xs r (ends opts₂ r) + value prev (ends opts₂ r))
            go (less h) =
                rw (B.opts_kept r (inl (omega arith)), B.cur_kept r (inl (omega arith)))
                (A.filled q R (record { feas = λ j u v. EF.feas j u (omega (arith, P.hi_hi)) })
                (λ t u v. ((all t u (omega arith)).0, here.1 t v (all t u (omega arith)).1)) r p h)
            go (more h) =
                B.filled q R (record { feas = λ j u v. EF.feas j (omega (arith, P.lo_lo)) v })
                (λ t u v. ((all t (omega arith) v).0, here.2 t (omega arith) (all t (omega arith) v).1)) r (omega arith) l
            go (same h) =
                rw (h, opts_at, cur_at, xe)
                (here.0, cost_holds q sums gap fit prev maxEnd R s e P.end_lo (stands q sums gap fit prev maxEnd R s e (all s ls sh).0 P.end_lo here.0.has.ok.fit here.0.has.feas))

-- ---- the search for an end that no zero item follows
pub record Passed (sums : List Float) (gap : Float) (from stop end : ℕ) : Type 0 where
  pub lo : from ≤ end
  pub hi : from < end → end ≤ stop
  pub zeros : (e : ℕ) → from ≤ e → e < end → zero_f sums gap e ≡ true

pub passed_more : (sums : List Float) (gap : Float) (from stop end : ℕ) → Passed sums gap from stop end → end < stop → zero_f sums gap end ≡ true → Passed sums gap from stop (end + 1)
passed_more sums gap from stop end p l h = record {
  lo = omega (arith, p.lo);
  hi = λ _. omega arith;
  zeros = λ e u v. at e u (eq-or-lt_of_le (let g : e ≤ end = omega arith in g));
}
  where
    at : (e : ℕ) → from ≤ e → (e ≡ end) ⊎ (e < end) → zero_f sums gap e ≡ true
    at e u (inl i) = rw i h
    at e u (inr i) = p.zeros e u i
