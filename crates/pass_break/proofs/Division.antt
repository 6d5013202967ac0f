-- The lines of any mode divide the items: positive counts, with sum n, no more of them than items, each in a u32; and the contract leaves no
-- choice. By the laws of greedy breaking and of the balanced rule. Assumes nothing.
use mathlib.Core.Path.{◌≡◌, refl, sym, ap, ◌∙◌, subst}
use mathlib.Core.List.{List, [], ◌∷◌, ◌++◌, map}
use Prim.Native.Nat.{ℕ, zero, suc, ◌+◌, ◌-◌, ◌≤◌, ◌<◌, zero-le}
use native.Mathlib.Nat.{not-suc-le-zero, zero-lt-suc, le_of_suc-le-suc, add-zero}
use native.Mathlib.Omega.{arith}
use lib.ListN.{length, get_or, take, drop, replicate, length-map, length-drop}
use lib.Seq.{take_at}
use lib.IntN.{ℤ}
use lib.Ieee.{Float}
use mir.Syntax.{w32}
use mir.Val.{Fits}
use Rattle.grid.specs.Grid.{sixty_fourths}
use Rattle.lists.specs.Cells.{sum_up_to}
use Rattle.keywords.specs.declared.AvailableSpace.{AvailableSpace}
use Rattle.break_greedy.specs.Breaking.{Limit, limit_of, greedy}
use Rattle.break_greedy.specs.Calls.{units, count_cells}
use Rattle.break_greedy.proofs.Lines.{total, greedy-total, greedy-positive}
use Rattle.balance.specs.Calls.{BreakLent}
use Rattle.balance_rule.specs.Rule.{floored, Valid}
use Rattle.lists.proofs.UpTo.{sum_first}
use Rattle.balance_rule.proofs.Unique.{balanced_one}
use Rattle.keywords.specs.declared.Mode.{Mode}
use Rattle.keywords.specs.declared.Mode.TheVariants.{Single, Greedy, Balanced}
use Rattle.pass_break.specs.Wrapping.{one_line, Lines, listed, Wrapped}

-- ---- counts

-- positive counts with sum n
pub record Divides (n : ℕ) (lines : List ℕ) : Type 0 where
  pub positive : (j : ℕ) → j < length lines → 0 < get_or lines j 0
  pub whole : sum_up_to (λ j. get_or lines j 0) (length lines) ≡ n
  pub few : length lines ≤ n
  pub small : (j : ℕ) → get_or lines j 0 ≤ n

-- the sum by places is the sum of the list
sum-total : (l : List ℕ) → sum_up_to (λ j. get_or l j 0) (length l) ≡ total l
unfolding sum_up_to total
sum-total [] = refl
sum-total (c ∷ d) = sum_first (λ j. get_or (c ∷ d) j 0) (length d) ∙ ap (λ (s : ℕ). c + s) (sum-total d)

count_small : (l : List ℕ) (j : ℕ) → get_or l j 0 ≤ total l
unfolding total
count_small [] j = zero-le
count_small (c ∷ d) zero = omega arith
count_small (c ∷ d) (suc j) = omega (arith, count_small d j)

count_few : (l : List ℕ) → ((j : ℕ) → j < length l → 0 < get_or l j 0) → length l ≤ total l
unfolding total
count_few [] h = zero-le
count_few (c ∷ d) h = omega (arith, count_few d (λ j k. h (suc j) (omega arith)), h 0 (zero-lt-suc (length d)))

divides_of : (n : ℕ) (l : List ℕ) → ((j : ℕ) → j < length l → 0 < get_or l j 0) → total l ≡ n → Divides n l
divides_of n l p e = record {
  positive = p;
  whole = sum-total l ∙ e;
  few = omega (arith, count_few l p);
  small = λ j. omega (arith, count_small l j);
}

-- ---- by mode

one-positive : (n j : ℕ) → j < length (one_line n) → 0 < get_or (one_line n) j 0
one-positive zero j h = absurd (not-suc-le-zero h)
one-positive (suc n) zero h = zero-lt-suc n
one-positive (suc n) (suc j) h = absurd (not-suc-le-zero (le_of_suc-le-suc h))

one-total : (n : ℕ) → total (one_line n) ≡ n
unfolding total
one-total zero = refl
one-total (suc n) = add-zero (suc n)

valid_positive : (limit : Limit) (gap : ℤ) (xs : List ℤ) (d : List ℕ) → Valid limit gap xs d → (j : ℕ) → j < length d → 0 < get_or d j 0
valid_positive limit gap xs [] v j h = absurd (not-suc-le-zero h)
valid_positive limit gap xs (c ∷ d) v zero h = v.0.positive
valid_positive limit gap xs (c ∷ d) v (suc j) h = valid_positive limit gap (drop c xs) d v.1 j (le_of_suc-le-suc h)

valid_total : (limit : Limit) (gap : ℤ) (xs : List ℤ) (d : List ℕ) → Valid limit gap xs d → total d ≡ length xs
unfolding total
valid_total limit gap xs [] v = sym (ap length v)
valid_total limit gap xs (c ∷ d) v = omega (arith, valid_total limit gap (drop c xs) d v.1, length-drop c xs, v.0.enough)

-- ---- the answer list

-- the counts that are read back, as many as there are lines
pub read_back : (n : ℕ) (lines before : List ℕ) → take (length lines) (count_cells n lines before) ≡ lines
read_back n lines before = take_at lines (replicate (n - length lines) 0 ++ drop n before) (length lines) refl

counts_listed : (mode : Mode) (n : ℕ) (lines : List ℕ) (b : BreakLent) → (listed mode n lines b).counts ≡ count_cells n lines b.counts
counts_listed Single n lines b = refl
counts_listed Greedy n lines b = refl
counts_listed Balanced n lines b = refl

-- ---- all modes

module _ (limit : AvailableSpace) (gap : Float) (minimum : ℕ) (sizes : List Float) where
  abbrev L : Limit
  L = limit_of limit

  abbrev G : ℤ
  G = sixty_fourths gap

  -- THE LINES OF ANY MODE DIVIDE THE ITEMS
  pub lines_divide : (mode : Mode) (lines : List ℕ) → Lines mode limit gap minimum sizes lines → Divides (length sizes) lines
  lines_divide Single lines e = subst (Divides (length sizes)) (sym e) (divides_of (length sizes) (one_line (length sizes)) (one-positive (length sizes)) (one-total (length sizes)))
  lines_divide Greedy lines e =
      subst (Divides (length sizes)) (sym e)
      (divides_of (length sizes) (greedy L G (units sizes)) (greedy-positive L G (units sizes)) (greedy-total L G (units sizes) ∙ length-map sizes sixty_fourths))
  lines_divide Balanced lines b =
      divides_of (length sizes) lines (valid_positive L G (map floored (units sizes)) lines b.valid)
      (valid_total L G (map floored (units sizes)) lines b.valid ∙ length-map (units sizes) floored ∙ length-map sizes sixty_fourths)

  -- and so do the counts that a call leaves, read back as many as it answers
  pub wrapped_counts : (mode : Mode) {b a : BreakLent} {r : ℕ} (w : Wrapped mode limit gap minimum sizes b r a) → take r a.counts ≡ w.lines
  wrapped_counts mode {b} {a} w =
      ap (λ (k : ℕ). take k a.counts) w.number
      ∙ ap (take (length w.lines)) (ap (λ (l : BreakLent). l.counts) w.cells ∙ counts_listed mode (length sizes) w.lines b)
      ∙ read_back (length sizes) w.lines b.counts

  pub wrapped_divides : (mode : Mode) {b a : BreakLent} {r : ℕ} → Wrapped mode limit gap minimum sizes b r a → Divides (length sizes) (take r a.counts)
  wrapped_divides mode w = subst (Divides (length sizes)) (sym (wrapped_counts mode w)) (lines_divide mode w.lines w.lines_are)

  -- ANY TWO LINES OF A MODE ARE ONE
  pub lines_one : (mode : Mode) (c d : List ℕ) → Lines mode limit gap minimum sizes c → Lines mode limit gap minimum sizes d → c ≡ d
  lines_one Single c d p q = p ∙ sym q
  lines_one Greedy c d p q = p ∙ sym q
  lines_one Balanced c d p q = balanced_one L G (units sizes) minimum c d p q

  -- ANY TWO RESULTS THAT THE CONTRACT ALLOWS ARE EQUAL
  pub no_choice : (mode : Mode) (b : BreakLent) (r s : ℕ) (a c : BreakLent) → Wrapped mode limit gap minimum sizes b r a → Wrapped mode limit gap minimum sizes b s c → (r ≡ s) × (a ≡ c)
  no_choice mode b r s a c p q =
      let e = lines_one mode p.lines q.lines p.lines_are q.lines_are in
      (p.number ∙ ap length e ∙ sym q.number, p.cells ∙ ap (λ (l : List ℕ). listed mode (length sizes) l b) e ∙ sym q.cells)

-- ---- as numbers of the program

-- of 1,024 items each count is in a u32, and so is the number of lines
pub count_fits : (n : ℕ) (lines : List ℕ) → n ≤ 1024 → Divides n lines → (j : ℕ) → Fits w32 (get_or lines j 0)
count_fits n lines h d j = omega (arith, d.small j)

pub number_fits : (n : ℕ) (lines : List ℕ) → n ≤ 1024 → Divides n lines → Fits w32 (length lines)
number_fits n lines h d = omega (arith, d.few)
