-- The steps of reading the division back. Assumes nothing.
use mathlib.Core.Path.{◌≡◌, sym, subst}
use mathlib.Core.List.{List}
use Prim.Native.Nat.{ℕ, suc, ◌+◌, ◌-◌, ◌*◌, ◌≤◌, ◌<◌, zero-le}
use native.Mathlib.Numerals.{add-one}
use native.Mathlib.Omega.{arith}
use lib.ListN.{length, get_or, set, take}
use lib.Seq.{take-suc-set}
use Rattle.balance_rule.specs.Dp.{Argmin, Feas, Usable, BestAt}
use Rattle.balance_rule.proofs.DpLaws.{Reads, reads_start, reads_more, reads_end}
use Rattle.balance_rule.specs.Sizes.{square_at, ZeroAt}
use Rattle.balance_sums.specs.Sums.{ends}
use Rattle.balance_rows.specs.Program.{count_at, Within, RowKept}
use Rattle.balance_rows.proofs.ProgramLaws.{within_next}
use Rattle.balance_run.specs.Reading.{RowsReadable, ReadOut}

-- counts holds the lines before `start`, and `lines` lines are left
pub record ReadSoFar (opts : List ℕ) (n K : ℕ) (counts : List ℕ) (start lines i : ℕ) : Type 0 where
  pub sum : i + lines ≡ K
  pub some : 1 ≤ lines
  pub feas : (R : RowsReadable opts n K) → Feas (length R.xs) (count_at R.greedy) start lines
  pub within : (R : RowsReadable opts n K) → Within R.reach i start
  pub reads : (R : RowsReadable opts n K) → Reads (length R.xs) (ends R.fit) (ZeroAt R.xs) (square_at R.g R.xs) K (take i counts) start lines

pub read_start : (opts : List ℕ) (n K : ℕ) (counts : List ℕ) → 1 ≤ K → ReadSoFar opts n K counts 0 K 0
read_start opts n K counts h = record {
  sum = omega arith;
  some = h;
  feas = λ R. R.start;
  within = λ R. record { from = zero-le; to = zero-le };
  reads = λ R. reads_start (length R.xs) (ends R.fit) (count_at R.greedy) (ZeroAt R.xs) (square_at R.g R.xs) R.law K;
}

module _ {opts : List ℕ} {n K : ℕ} {counts : List ℕ} {start lines i : ℕ} (P : ReadSoFar opts n K counts start lines i) where
  pub read_row : 1 < lines → (R : RowsReadable opts n K) → RowKept R.g R.xs R.fit R.greedy R.reach opts ((lines - 2) * n) (lines - 1) i
  read_row h R =
      let e : lines - 1 - 1 ≡ lines - 2 = omega arith in
      let f : K - (lines - 1 + 1) ≡ i = omega (arith, P.sum) in
      subst (λ (b : ℕ). RowKept R.g R.xs R.fit R.greedy R.reach opts (b * n) (lines - 1) i) e
      (subst (RowKept R.g R.xs R.fit R.greedy R.reach opts ((lines - 1 - 1) * n) (lines - 1)) f (R.rows (lines - 1) (omega arith) (omega (arith, P.sum))))

  -- the choice at the start
  pub read_choice : (h : 1 < lines) (R : RowsReadable opts n K)
      → Argmin (Usable (length R.xs) (ends R.fit) (count_at R.greedy) (ZeroAt R.xs) (lines - 1) start)
      (λ t. square_at R.g R.xs start t + (read_row h R).v t) (get_or opts ((lines - 2) * n + start) 0 + 1)
  read_choice h R =
      let f : suc (lines - 1) ≡ lines = omega arith in
      (read_row h R).choices start (rw f (P.feas R)) (P.within R)

  -- the next line's start
  read-within : 1 < lines → (R : RowsReadable opts n K) (u : ℕ) → Usable (length R.xs) (ends R.fit) (count_at R.greedy) (ZeroAt R.xs) (lines - 1) start u → Within R.reach (i + 1) u
  read-within h R u g =
      within_next (length R.xs) R.fit R.reach (count_at R.greedy) (ZeroAt R.xs) (lines - 1) i start u R.fit_length R.reaches (omega (arith, P.sum, R.start.room)) (P.within R) g

  pub read_more : (x : ℕ) → 1 < lines → i < length counts → x ≡ get_or opts ((lines - 2) * n + start) 0 - start + 1 → RowsReadable opts n K
      → ReadSoFar opts n K (set counts i x) (get_or opts ((lines - 2) * n + start) 0 + 1) (lines - 1) (i + 1)
  read_more x h il xe R₀ = record {
    sum = omega (arith, P.sum);
    some = omega arith;
    feas = λ R. (read_choice h R).has.feas;
    within = λ R. read-within h R (get_or opts ((lines - 2) * n + start) 0 + 1) (read_choice h R).has;
    reads = λ R. more R;
  }
    where
      more : (R : RowsReadable opts n K) → Reads (length R.xs) (ends R.fit) (ZeroAt R.xs) (square_at R.g R.xs) K (take (i + 1) (set counts i x)) (get_or opts ((lines - 2) * n + start) 0 + 1) (lines - 1)
      more R =
          let row = read_row h R in
          let f : suc (lines - 1) ≡ lines = omega arith in
          let c : get_or opts ((lines - 2) * n + start) 0 + 1 - start ≡ x = omega (arith, (read_choice h R).has.ok.some) in
          rw (add-one i, take-suc-set counts i x il)
          (rw c at (reads_more (length R.xs) (ends R.fit) (count_at R.greedy) (ZeroAt R.xs) (square_at R.g R.xs) R.law K (take i counts) (lines - 1) start (get_or opts ((lines - 2) * n + start) 0 + 1) row.v
          (λ u g. row.costs u g.feas (read-within h R u g)) (read_choice h R) (rw f (P.reads R))))

  pub read_end : (x : ℕ) → lines ≤ 1 → i < length counts → x ≡ n - start → ReadOut opts n K (set counts i x)
  read_end x h il xe = record { best = λ R. last R }
    where
      one : lines ≡ 1
      one = omega (arith, P.some)

      last : (R : RowsReadable opts n K) → BestAt (length R.xs) (ends R.fit) (ZeroAt R.xs) (square_at R.g R.xs) 0 K (take K (set counts i x))
      last R =
          let k : K ≡ suc i = omega (arith, P.sum, one) in
          let c : length R.xs - start ≡ x = omega (arith, R.n_is) in
          subst (λ (j : ℕ). BestAt (length R.xs) (ends R.fit) (ZeroAt R.xs) (square_at R.g R.xs) 0 K (take j (set counts i x))) (sym k)
          (rw (take-suc-set counts i x il)
          (rw c at (reads_end (length R.xs) (ends R.fit) (count_at R.greedy) (ZeroAt R.xs) (square_at R.g R.xs) R.law K (take i counts) start (rw one at (P.feas R)) (rw one at (P.reads R)))))
