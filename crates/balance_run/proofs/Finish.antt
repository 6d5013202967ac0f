-- From the tables that the code filled to the rule. Assumes nothing.
use mathlib.Core.Path.{◌≡◌, sym, subst, ◌∙◌}
use mathlib.Core.List.{List}
use Prim.Native.Nat.{ℕ, ◌+◌, ◌-◌, ◌*◌, ◌≤◌, ◌<◌, max, zero-le}
use native.Mathlib.Nat.{le_refl, mul-le-mul}
use native.Mathlib.Omega.{arith}
use lib.ListN.{length, get_or, take}
use Rattle.std.specs.declared.option.Option.{Option}
use Rattle.balance_sums.specs.declared.Units.{Units}
use lib.Ieee.{Float, nan, mul, binary64}
use Rattle.balance_rule.specs.Natural.{Chosen, Balanced}
use Rattle.balance_rule.specs.Rule.{held}
use Rattle.balance_rule.specs.Dp.{Laws, BestAt}
use Rattle.balance_rule.proofs.DpLaws.{g_mono}
use Rattle.balance_rule.specs.Sizes.{FitEnd, ZeroAt, square_at}
use Rattle.balance_rule.proofs.SizesLaws.{fit_mono, laws, chosen}
use Rattle.balance_rule.proofs.Exists.{balanced_of}
use Rattle.balance_sums.specs.Sums.{size_f, ends}
use Rattle.balance_tables.specs.Tables.{FitsOut, FitRange, CountsFrom, Rising, Falling, Reaches}
use Rattle.balance_rows.specs.Program.{count_at, TablesAre, RowBase, RowsSoFar}
use Rattle.balance_rows.proofs.ProgramLaws.{first_prev}
use Rattle.balance_run.specs.Reading.{RowsReadable, ReadOut}
use Rattle.balance_run.specs.Run.{BalanceIn, BalanceOut}

pub fit_range : {sums : List Float} {gap : Float} {limit : Option Units} {fit : List ℕ} → FitsOut sums gap limit fit → length fit ≡ length sums → FitRange fit
fit_range F e = record { lo = λ s h. F.lo s (omega arith); hi = λ s h. omega (arith, F.hi s (omega arith)) }

module _ {sums : List Float} {gap : Float} {limit : Option Units} {fit : List ℕ} (fl : length fit ≡ length sums) (F : FitsOut sums gap limit fit) where
  fits_are : (I : BalanceIn sums gap limit) (s : ℕ) → s < length I.xs → FitEnd I.L I.g I.xs s (ends fit s)
  fits_are I s h = F.are I.L I.g I.xs I.sums_are I.limit_is s (omega (arith, I.sums_are.count))

  pub fit_rising : BalanceIn sums gap limit → Rising fit
  fit_rising I = record {
    rises = λ s t l h. omega (
      arith,
      fit_mono I.L I.g I.xs s t (ends fit s) (ends fit t) l (fits_are I s (omega (arith, I.sums_are.count))) (fits_are I t (omega (arith, I.sums_are.count))),
    );
  }

  module _ {greedy : List ℕ} (G : CountsFrom fit greedy 0) where
    pub tables : (I : BalanceIn sums gap limit) → TablesAre I.L I.g I.xs sums gap fit greedy
    tables I = record {
      sums_are = I.sums_are;
      fits_are = fits_are I;
      counts_are = record { end = rw (sym I.sums_are.count ∙ sym fl) G.end; step = λ s h. G.step s zero-le (omega (arith, I.sums_are.count)) };
    }

    pub table_laws : (I : BalanceIn sums gap limit) → Laws (length I.xs) (ends fit) (count_at greedy) (ZeroAt I.xs) (square_at I.g I.xs)
    table_laws I = laws I.L I.g I.xs (ends fit) (count_at greedy) (tables I).fits_are (tables I).counts_are

    pub greedy_falling : length greedy ≡ length sums → BalanceIn sums gap limit → Falling greedy
    greedy_falling gl I = record {
      falls = λ s t l h. g_mono (length I.xs) (ends fit) (count_at greedy) (ZeroAt I.xs) (square_at I.g I.xs) (table_laws I) s t l (omega (arith, I.sums_are.count));
    }

-- the tables as they are before the rows, the first row, and the line count
pub record Made (sums : List Float) (gap : Float) (limit : Option Units) (minimum : ℕ) (prev : List Float) (fit greedy reach : List ℕ) (K : ℕ) : Type 0 where
  pub some : 1 ≤ length sums
  pub few : length sums ≤ 1024
  pub prev_length : length prev ≡ length sums
  pub fit_length : length fit ≡ length sums
  pub greedy-length : length greedy ≡ length sums
  pub reach_length : length reach ≡ length sums
  pub fits : FitsOut sums gap limit fit
  pub counts : CountsFrom fit greedy 0
  pub reaches : Reaches fit reach
  pub first : (s : ℕ) → s < length sums → get_or prev s nan ≡ mul binary64 (size_f sums gap s (length sums - 1)) (size_f sums gap s (length sums - 1))
  pub k_is : K ≡ max (get_or greedy 0 0) (held minimum (length sums))

module _ {sums : List Float} {gap : Float} {limit : Option Units} {minimum : ℕ} {prev₁ : List Float} {fit greedy reach : List ℕ} {K : ℕ}
    (M : Made sums gap limit minimum prev₁ fit greedy reach K) where
  pub k_hi : K ≤ length sums
  k_hi = omega (arith, M.k_is, M.some, M.fit_length, M.counts.few 0 zero-le zero-le)

  pub k_lo : 1 ≤ K
  k_lo = omega (arith, M.k_is, M.some)

  pub rows_room : (p m : ℕ) → p ≡ length sums → m ≡ length sums * length sums → K * p ≤ m + p
  rows_room p m e f = rw (e, f) (omega (arith, mul-le-mul {n₁ = K} {m₁ = length sums} {n₂ = length sums} {m₂ = length sums} k_hi (le_refl (length sums))))

  pub made_tables : (I : BalanceIn sums gap limit) → TablesAre I.L I.g I.xs sums gap fit greedy
  made_tables = tables M.fit_length M.fits M.counts

  pub row_base : BalanceIn sums gap limit → RowBase sums fit greedy reach prev₁
  row_base I = record {
    few = omega (arith, M.few, M.prev_length);
    sums_length = sym M.prev_length;
    fit_length = M.fit_length ∙ sym M.prev_length;
    greedy-length = M.greedy-length ∙ sym M.prev_length;
    reach_length = M.reach_length ∙ sym M.prev_length;
    range = fit_range M.fits M.fit_length;
    falling = greedy_falling M.fit_length M.fits M.counts M.greedy-length I;
    reaches = M.reaches;
  }

  module _ {prev₂ : List Float} {opts : List ℕ} (R : RowsSoFar sums gap fit greedy reach K prev₁ prev₂ opts (K + 1)) where
    abbrev pub readable : BalanceIn sums gap limit → RowsReadable opts (length sums) K
    readable I = record {
      g = I.g;
      xs = I.xs;
      fit = fit;
      greedy = greedy;
      reach = reach;
      n_is = sym I.sums_are.count;
      fit_length = M.fit_length ∙ I.sums_are.count;
      reaches = M.reaches;
      law = table_laws M.fit_length M.fits M.counts I;
      rows = λ k a b. (R.out I.L I.g I.xs (made_tables I) (first_prev I.L I.g I.xs sums gap fit greedy reach prev₁ (K - 1) (made_tables I) M.first)).1 k a b;
      start = record { enough = omega (arith, M.k_is); room = omega (arith, k_hi, I.sums_are.count) };
    }

    pub finish : (counts : List ℕ) → ReadOut opts (length sums) K counts → BalanceOut sums gap limit minimum K counts
    finish counts O = record { few = k_hi; balanced = done }
      where
        done : (I : BalanceIn sums gap limit) → Balanced I.L I.g I.xs minimum (take K counts)
        done I =
            let T = made_tables I in
            let b : BestAt (length I.xs) (ends fit) (ZeroAt I.xs) (square_at I.g I.xs) 0 K (take K counts) = O.best (readable I) in
            let k : K ≡ max (get_or greedy 0 0) (held minimum (length I.xs)) = rw (sym I.sums_are.count) M.k_is in
            balanced_of I.L I.g I.xs (ends fit) (count_at greedy) T.fits_are T.counts_are minimum (take K counts)
            (subst (λ (j : ℕ). Chosen I.L I.g I.xs j (take K counts)) k (chosen I.L I.g I.xs (ends fit) (count_at greedy) T.fits_are T.counts_are K (take K counts) b))
