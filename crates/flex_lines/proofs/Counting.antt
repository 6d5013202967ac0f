-- The counts of the lines: the loop that adds them up, and what it shows. Assumes nothing.
use mathlib.Core.Path.{◌≡◌, refl, sym, ap, ap₂, ◌∙◌, subst}
use mathlib.Core.Bool.{Bool, true, ◌&&◌}
use mathlib.Core.List.{List}
use Prim.Native.Nat.{ℕ, zero, suc, ◌+◌, ◌*◌, ◌≤◌, ◌<◌, zero-le}
use native.Mathlib.Numerals.{add-one}
use native.Mathlib.Omega.{arith}
use lib.Dec.{eqb, leb}
use lib.ListN.{length, get_or}
use borrow.Author.Count.{below_more}
use borrow.Author.Tests.{leb-true, eqb-true}
use Rattle.lists.proofs.UpTo.{sum-none, sum_more}
use Rattle.checks.proofs.Marked.{and_true}
use Rattle.lists.specs.ByLine.{line_start, positive, divides}

-- ---- the loop over the counts

pub record Counting (counts : List ℕ) (ok : Bool) (sum j : ℕ) : Type 0 where
  pub inside : j ≤ length counts
  pub ok_is : ok ≡ positive counts j
  pub sum_is : sum ≡ line_start counts j
  pub small : sum ≤ j * 4294967295

pub counting_none : (counts : List ℕ) → Counting counts true 0 0
unfolding positive
counting_none counts = record { inside = zero-le; ok_is = refl; sum_is = sym (sum-none (λ i. get_or counts i 0)); small = zero-le }

positive_next : (counts : List ℕ) (j : ℕ) → positive counts (j + 1) ≡ (leb 1 (get_or counts j 0) && positive counts j)
unfolding positive
positive_next counts j = ap (λ (k : ℕ). positive counts k) (add-one j)

pub counting_next : (counts : List ℕ) (ok : Bool) (sum j c : ℕ) (ok' : Bool) → j < length counts → c ≡ get_or counts j 0 → c ≤ 4294967295 → ok' ≡ (leb 1 c && ok) → Counting counts ok sum j → Counting counts ok' (sum + c) (j + 1)
counting_next counts ok sum j c ok' h e l q p = record {
  inside = omega arith;
  ok_is = q ∙ ap₂ (λ (k : ℕ) (b : Bool). leb 1 k && b) e p.ok_is ∙ sym (positive_next counts j);
  sum_is = ap₂ (λ (a b : ℕ). a + b) p.sum_is e ∙ sym (sum_more (λ i. get_or counts i 0) j);
  small = omega (arith, p.small);
}

-- ---- counts that divide the items

each-positive : (counts : List ℕ) (k : ℕ) → positive counts k ≡ true → (j : ℕ) → j < k → 0 < get_or counts j 0
unfolding positive
each-positive counts zero e j h = absurd (omega arith)
each-positive counts (suc k) e j h =
    let p = and_true (leb 1 (get_or counts k 0)) (positive counts k) e in
    below_more (λ (i : ℕ). 0 < get_or counts i 0) k (each-positive counts k p.1) (leb-true 1 (get_or counts k 0) p.0) j (subst (λ (m : ℕ). j < m) (sym (add-one k)) h)

pub divides_so : (counts : List ℕ) (n : ℕ) → divides counts n ≡ true → (line_start counts (length counts) ≡ n) × ((j : ℕ) → j < length counts → 0 < get_or counts j 0)
divides_so counts n e =
    let p = and_true (eqb (line_start counts (length counts)) n) (positive counts (length counts)) e in
    (eqb-true (line_start counts (length counts)) n p.0, each-positive counts (length counts) p.1)
