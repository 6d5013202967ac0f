-- The steps of one row and of the rows. Assumes nothing.
use mathlib.Core.Path.{◌≡◌, subst, ◌∙◌}
use mathlib.Core.Logic.{◌⊎◌, inl, inr}
use mathlib.Core.List.{List, ◌++◌}
use Prim.Native.Nat.{ℕ, suc, ◌+◌, ◌-◌, ◌*◌, ◌≤◌, ◌<◌, min, max}
use native.Mathlib.Nat.{le_refl, mul-le-mul, add-mul, one-mul}
use native.Mathlib.Omega.{arith}
use lib.ListN.{length, get_or, take, get_or-append}
use lib.Seq.{length-take-le, get_or-append-add, get_or-take}
use lib.Ieee.{Float, nan, binary64, mul}
use Rattle.balance_rule.specs.Natural.{Limit}
use Rattle.balance_rule.specs.Dp.{Feas, Laws, Usable}
use Rattle.balance_rule.proofs.DpLaws.{lt_or_ge, Order, order, less, same, more, g_mono, row_one, extend_costs}
use Rattle.balance_rule.proofs.EndsLaws.{covers_start}
use Rattle.balance_rule.specs.Sizes.{pre, size_at, square_at, ZeroAt}
use Rattle.balance_rule.proofs.SizesLaws.{laws}
use Rattle.balance_sums.specs.Whole.{Holds}
use Rattle.balance_sums.proofs.WholeLaws.{whole_is, mul_holds}
use Rattle.balance_sums.specs.Sums.{size_f, ends}
use Rattle.balance_choice.specs.Cells.{Ghost, value, StartReady, RowIn, Choice, CoversIn, Safe, EndsFeas, RowOut}
use Rattle.balance_sums.proofs.SumsLaws.{size_holds}
use Rattle.balance_choice.proofs.Steps.{small_square, row_laws}
use Rattle.balance_tables.specs.Tables.{SumsAre, Falling, Reaches, FirstFor}
use Rattle.balance_rows.specs.Program.{count_at, TablesAre, Within, PrevIs, RowSafe, RowFor, OneRow, RowKept, RowsSoFar, RowBase}

-- the next line starts at an end that the line may have
pub within_next : (n : ℕ) (fit reach : List ℕ) (G : ℕ → ℕ) (Z : ℕ → Type 0) (k j s t : ℕ) → length fit ≡ n → Reaches fit reach → j + 1 < n → Within reach j s → Usable n (ends fit) G Z k s t → Within reach (j + 1) t
within_next n fit reach G Z k j s t fl R jn w u = record {
  from = omega (arith, w.from, u.ok.some);
  to = omega (arith, R.step j s (omega arith) w.to (omega (arith, u.ok.some, u.ok.inside)), u.ok.fit);
}

abbrev pub ghost_of : Limit → ℕ → List ℕ → List ℕ → List ℕ → ℕ → ℕ → Ghost
ghost_of L g xs greedy reach k j = record { limit = L; gap = g; xs = xs; G = count_at greedy; k = k; lo = j; hi = get_or reach j 0 }

pub row_safe : (sums : List Float) (fit : List ℕ) (prev : List Float) (lines : ℕ) → RowSafe sums fit prev lines → Safe sums fit prev (length prev - lines) (length prev - lines + 1)
row_safe sums fit prev lines S = record {
  few = S.few;
  sums_length = S.sums_length;
  fit_length = S.fit_length;
  room = omega (arith, S.two, S.enough);
  reach = le_refl (length prev - lines + 1);
  fit_lo = λ s h. S.range.lo s (omega (arith, S.fit_length));
  fit_hi = λ s h. omega (arith, S.range.hi s (omega (arith, S.fit_length)), S.fit_length);
}

pub one_row : {sums : List Float} {gap : Float} {fit : List ℕ} {prev : List Float} {lines lo last seen hi : ℕ} {cur₀ cur prev' : List Float} {opts₀ opts : List ℕ}
    → hi ≡ min (length prev - lines) last + 1
    → RowOut sums gap fit prev (length prev - lines) lo hi (seen - 1) (length prev - lines + 1) cur₀ cur opts₀ opts
    → ((s : ℕ) → lo ≤ s → s < hi → get_or prev' s nan ≡ get_or cur s nan)
    → OneRow sums gap fit prev lines lo last seen prev' opts
one_row {sums} {gap} {fit} {prev} {lines} {lo} {last} {seen} {hi} {cur₀} {cur} {prev'} {opts₀} {opts} he O copied = record { out = out' }
  where
    out' : (q : Ghost) → RowIn q sums gap fit prev (length prev - lines) → RowFor q fit lo last seen
        → (s : ℕ) → lo ≤ s → s ≤ last → Feas (length q.xs) q.G s (suc q.k)
        → Choice q fit prev s (get_or opts s 0) × Holds (get_or prev' s nan) (square_at q.gap q.xs s (ends opts s) + value prev (ends opts s))
    out' q R S s p l f = rw (copied s p in_row) (O.filled q R feas (λ r u v. (ready r u v, cover r)) s p in_row)
      where
        law : Laws (length q.xs) (ends fit) q.G (ZeroAt q.xs) (square_at q.gap q.xs)
        law = row_laws q sums gap fit prev (length prev - lines) R

        in_row : s < hi
        in_row = omega (arith, f.room, R.max_end)

        feas : EndsFeas q (seen - 1) (length prev - lines + 1)
        feas = record {
          feas = λ e u v. record {
            enough = omega (
              arith,
              S.seen_enough,
              g_mono (length q.xs) (ends fit) q.G (ZeroAt q.xs) (square_at q.gap q.xs) law seen (e + 1) (omega arith) (omega (arith, R.max_end)),
            );
            room = omega (arith, R.max_end);
          };
        }

        cover : (r : ℕ) → CoversIn q fit prev (seen - 1) (length prev - lines + 1) r
        cover r = covers_start (length q.xs) (ends fit) q.G (ZeroAt q.xs) (square_at q.gap q.xs) law (value prev) q.k r seen (length prev - lines + 1) S.seen_early R.max_end

        ready : (r : ℕ) → lo ≤ r → r < hi → StartReady q fit r
        ready r u v = record {
          feas = record { enough = S.enough r u (omega (arith, R.max_end)); room = omega (arith, R.max_end) };
          from = S.from r u;
          to = S.to r u (omega arith) (omega (arith, R.max_end));
        }

pub rows_start : (sums : List Float) (gap : Float) (fit greedy reach : List ℕ) (K : ℕ) (prev : List Float) (opts : List ℕ) → RowsSoFar sums gap fit greedy reach K prev prev opts 2
rows_start sums gap fit greedy reach K prev opts = record { out = λ L g xs T P. (P, λ k a b. absurd (omega arith)) }

pub rows_more : {sums : List Float} {gap : Float} {fit greedy reach : List ℕ} {K : ℕ} {prev₀ prev prev' : List Float} {opts part opts' : List ℕ} {lines row from lo last seen : ℕ}
    → 2 ≤ lines → lines ≤ K → K ≤ length sums → length prev ≡ length sums → length fit ≡ length sums → length greedy ≡ length sums → row ≡ (lines - 2) * length sums
    → Falling greedy → Reaches fit reach → FirstFor greedy lines from → FirstFor greedy (lines - 1) seen → lo ≡ max from (K - lines) → last ≡ get_or reach (K - lines) 0
    → RowsSoFar sums gap fit greedy reach K prev₀ prev opts lines
    → OneRow sums gap fit prev lines lo last seen prev' part
    → ((s : ℕ) → s < length sums → get_or opts' (row + s) 0 ≡ get_or part s 0)
    → ((i : ℕ) → i < row → get_or opts' i 0 ≡ get_or opts i 0)
    → RowsSoFar sums gap fit greedy reach K prev₀ prev' opts' (lines + 1)
rows_more {sums} {gap} {fit} {greedy} {reach} {K} {prev₀} {prev} {prev'} {opts} {part} {opts'} {lines} {row} {from} {lo} {last} {seen} two top Kn pl fl gl re D A ff fs loe lae R O here kept = record { out = out' }
  where
    out' : (L : Limit) (g : ℕ) (xs : List ℕ) → TablesAre L g xs sums gap fit greedy → PrevIs g xs fit greedy reach prev₀ 1 (K - 1)
        → PrevIs g xs fit greedy reach prev' (lines + 1 - 1) (K - (lines + 1 - 1))
        × ((k : ℕ) → 1 ≤ k → k + 1 < lines + 1 → RowKept g xs fit greedy reach opts' ((k - 1) * length sums) k (K - (k + 1)))
    out' L g xs T P₀ = (subst (λ (i : ℕ). PrevIs g xs fit greedy reach prev' i (K - i)) (let e : suc k₁ ≡ lines + 1 - 1 = omega (arith, k_is) in e) next_prev, rows')
      where
        k₁ : ℕ
        k₁ = lines - 1

        k_is : lines ≡ suc k₁
        k_is = omega arith

        -- the line that the row's starts have
        j : ℕ
        j = K - suc k₁

        j_next : K - k₁ ≡ j + 1
        j_next = omega (arith, k_is)

        j_is : K - lines ≡ j
        j_is = omega (arith, k_is)

        n_is : length sums ≡ length xs
        n_is = T.sums_are.count

        law : Laws (length xs) (ends fit) (count_at greedy) (ZeroAt xs) (square_at g xs)
        law = laws L g xs (ends fit) (count_at greedy) T.fits_are T.counts_are

        P : PrevIs g xs fit greedy reach prev k₁ (j + 1)
        P = subst (PrevIs g xs fit greedy reach prev k₁) j_next (R.out L g xs T P₀).0

        q : Ghost
        q = ghost_of L g xs greedy reach k₁ (j + 1)

        in_row : RowIn (ghost_of L g xs greedy reach k₁ (j + 1)) sums gap fit prev (length prev - lines)
        in_row = record {
          count = n_is;
          gap_is = T.sums_are.gap_is;
          sums_are = T.sums_are.sums_are;
          small = T.sums_are.small;
          fits_are = T.fits_are;
          greedy = T.counts_are;
          prev_are = λ t s. P.costs t s.feas (record { from = s.from; to = s.to });
          prev_hold = λ t s. P.holds t s.feas (record { from = s.from; to = s.to });
          some_after = omega (arith, k_is);
          max_end = omega (arith, k_is, n_is);
        }

        row_for : RowFor (ghost_of L g xs greedy reach k₁ (j + 1)) fit lo last seen
        row_for = record {
          seen_enough = fs.enough;
          seen_early = fs.early;
          enough = λ s p h. omega (arith, k_is, ff.enough, D.falls from s (omega arith) (omega (arith, n_is)));
          from = λ s p. omega (arith, j_is);
          to = λ s p l h. A.step j s (omega (arith, k_is)) (rw (← j_is) (omega arith)) (omega (arith, n_is));
        }

        lo_at : (s : ℕ) → Feas (length xs) (count_at greedy) s (suc k₁) → Within reach j s → lo ≤ s
        lo_at s f w = go (lt_or_ge s from)
          where
            go : (s < from) ⊎ (from ≤ s) → lo ≤ s
            go (inl h) = absurd (omega (arith, ff.early s h, f.enough, k_is))
            go (inr h) = omega (arith, w.from, j_is)

        now : (s : ℕ) → Feas (length xs) (count_at greedy) s (suc k₁) → Within reach j s
            → Choice (ghost_of L g xs greedy reach k₁ (j + 1)) fit prev s (get_or part s 0) × Holds (get_or prev' s nan) (square_at g xs s (ends part s) + value prev (ends part s))
        now s f w = O.out (ghost_of L g xs greedy reach k₁ (j + 1)) in_row row_for s (lo_at s f w) (rw (lae, j_is) w.to) f

        inside : (s : ℕ) → Feas (length xs) (count_at greedy) s (suc k₁) → s < length sums
        inside s f = omega (arith, f.room, n_is)

        new_value : (s : ℕ) → Feas (length xs) (count_at greedy) s (suc k₁) → Within reach j s → value prev' s ≡ square_at g xs s (ends part s) + value prev (ends part s)
        new_value s f w = whole_is (get_or prev' s nan) (square_at g xs s (ends part s) + value prev (ends part s)) (now s f w).1

        next_prev : PrevIs g xs fit greedy reach prev' (suc k₁) (K - suc k₁)
        next_prev = record {
          costs = λ s f w. rw (new_value s f w) (extend_costs (length xs) (ends fit) (count_at greedy) (ZeroAt xs) (square_at g xs) law k₁ s (ends part s) (value prev)
              (λ u h. P.costs u h.feas (within_next (length xs) fit reach (count_at greedy) (ZeroAt xs) k₁ j s u (fl ∙ n_is) A (omega (arith, k_is, n_is)) w h)) (now s f w).0);
          holds = λ s f w. rw (new_value s f w) (now s f w).1;
        }

        rows' : (k : ℕ) → 1 ≤ k → k + 1 < lines + 1 → RowKept g xs fit greedy reach opts' ((k - 1) * length sums) k (K - (k + 1))
        rows' k a b = go (order k k₁)
          where
            go : Order k k₁ → RowKept g xs fit greedy reach opts' ((k - 1) * length sums) k (K - (k + 1))
            go (more l) = absurd (omega (arith, k_is))
            go (same l) = rw (l, let e : k₁ - 1 ≡ lines - 2 = omega (arith, k_is) in e, ← re, let i : K - (k₁ + 1) ≡ j = omega arith in i) (record {
              v = value prev;
              costs = P.costs;
              choices = λ s f w. rw (here s (inside s f)) (now s f w).0;
            })
            go (less l) =
                let old : RowKept g xs fit greedy reach opts ((k - 1) * length sums) k (K - (k + 1)) = (R.out L g xs T P₀).1 k a (omega (arith, k_is)) in
                record {
                  v = old.v;
                  costs = old.costs;
                  choices = λ s f w.
                      let before : (k - 1) * length sums + s < row = before_row s (omega (arith, f.room, n_is)) in
                      rw (kept ((k - 1) * length sums + s) before) (old.choices s f w);
                }
              where
                before_row : (s : ℕ) → s < length sums → (k - 1) * length sums + s < row
                before_row s h =
                    let m : (k - 1 + 1) * length sums ≤ (lines - 2) * length sums = mul-le-mul {n₁ = k - 1 + 1} {m₁ = length sums} {n₂ = lines - 2} {m₂ = length sums} (omega (arith, k_is)) (le_refl (length sums)) in
                    let d : (k - 1 + 1) * length sums ≡ (k - 1) * length sums + 1 * length sums = add-mul (k - 1) 1 (length sums) in
                    omega (arith, one-mul (length sums))

pub row_fits : (lines K n m : ℕ) → 2 ≤ lines → lines ≤ K → K * n ≤ m + n → (lines - 2) * n + n ≤ m
row_fits lines K n m a b h =
    let p : (lines - 2 + 2) * n ≤ K * n = mul-le-mul {n₁ = lines - 2 + 2} {m₁ = n} {n₂ = K} {m₂ = n} (omega arith) (le_refl n) in
    let q : (lines - 2 + 2) * n ≡ (lines - 2) * n + 2 * n = add-mul (lines - 2) 2 n in
    omega arith

pub row_small : (lines n : ℕ) → lines ≤ 1024 → n ≤ 1024 → (lines - 2) * n ≤ 1048576
row_small lines n a b = mul-le-mul {n₁ = lines - 2} {m₁ = n} {n₂ = 1024} {m₂ = 1024} (omega arith) b

pub row_next : (lines n row : ℕ) → 2 ≤ lines → row ≡ (lines - 2) * n → row + n ≡ (lines + 1 - 2) * n
row_next lines n row a e =
    let p : lines + 1 - 2 ≡ lines - 2 + 1 = omega arith in
    rw p (omega (arith, add-mul (lines - 2) 1 n, one-mul n))

pub safe_at : (sums : List Float) (fit greedy reach : List ℕ) (prev prev' : List Float) (lines : ℕ) → RowBase sums fit greedy reach prev → length prev' ≡ length prev → 2 ≤ lines → lines ≤ length prev
    → RowSafe sums fit prev' lines
safe_at sums fit greedy reach prev prev' lines S e a b = record {
  few = omega (arith, S.few);
  sums_length = omega (arith, S.sums_length);
  fit_length = omega (arith, S.fit_length);
  range = S.range;
  two = a;
  enough = omega arith;
}

pub record RowsInv (sums : List Float) (gap : Float) (fit greedy reach : List ℕ) (prev₀ : List Float) (K : ℕ) (prev : List Float) (opts : List ℕ) (lines row seen : ℕ) : Type 0 where
  pub row_is : row ≡ (lines - 2) * length sums
  pub seen_first : FirstFor greedy (lines - 1) seen
  pub seen_hi : seen ≤ length greedy
  pub so_far : RowsSoFar sums gap fit greedy reach K prev₀ prev opts lines

-- ---- a part of the choices that came back
pub mid_here : (a : ℕ) (xs ys post : List ℕ) (s : ℕ) → a ≤ length xs → s < length ys → get_or (take a xs ++ (ys ++ post)) (a + s) 0 ≡ get_or ys s 0
mid_here a xs ys post s h l =
    let e : length (take a xs) ≡ a = length-take-le a xs h in
    subst (λ (i : ℕ). get_or (take a xs ++ (ys ++ post)) (i + s) 0 ≡ get_or ys s 0) e (get_or-append-add (take a xs) (ys ++ post) s 0 ∙ get_or-append ys post 0 s l)

pub mid_before : (a : ℕ) (xs zs : List ℕ) (i : ℕ) → a ≤ length xs → i < a → get_or (take a xs ++ zs) i 0 ≡ get_or xs i 0
mid_before a xs zs i h l = get_or-append (take a xs) zs 0 i (omega (arith, length-take-le a xs h)) ∙ get_or-take a xs i 0 l

-- ---- the first row, and what the whole is given
pub first_prev : (L : Limit) (g : ℕ) (xs : List ℕ) (sums : List Float) (gap : Float) (fit greedy reach : List ℕ) (prev : List Float) (j : ℕ) → TablesAre L g xs sums gap fit greedy
    → ((s : ℕ) → s < length sums → get_or prev s nan ≡ mul binary64 (size_f sums gap s (length sums - 1)) (size_f sums gap s (length sums - 1)))
    → PrevIs g xs fit greedy reach prev 1 j
first_prev L g xs sums gap fit greedy reach prev j T E = record {
  costs = λ s f _. rw (is s f) (row_one (length xs) (ends fit) (count_at greedy) (ZeroAt xs) (square_at g xs) law s f);
  holds = λ s f _. rw (is s f) (held_at s f);
}
  where
    law : Laws (length xs) (ends fit) (count_at greedy) (ZeroAt xs) (square_at g xs)
    law = laws L g xs (ends fit) (count_at greedy) T.fits_are T.counts_are

    A : SumsAre g xs sums gap
    A = T.sums_are

    held_at : (s : ℕ) → Feas (length xs) (count_at greedy) s 1 → Holds (get_or prev s nan) (square_at g xs s (length xs))
    held_at s f =
        let z = size_f sums gap s (length sums - 1) in
        let e : suc (length sums - 1) ≡ length xs = omega (arith, A.count, f.room) in
        let h : Holds z (size_at g xs s (length xs)) = subst (λ (i : ℕ). Holds z (size_at g xs s i)) e (size_holds sums gap g xs A.gap_is A.sums_are A.small s (length sums - 1) (omega (arith, A.count, f.room)) (omega (arith, A.count, f.room))) in
        rw (E s (omega (arith, A.count, f.room)))
        (mul_holds z z (size_at g xs s (length xs)) (size_at g xs s (length xs)) h h (omega (arith, small_square (size_at g xs s (length xs)) (pre g xs (length xs)) (omega arith) A.small)))

    is : (s : ℕ) → Feas (length xs) (count_at greedy) s 1 → value prev s ≡ square_at g xs s (length xs)
    is s f = whole_is (get_or prev s nan) (square_at g xs s (length xs)) (held_at s f)
