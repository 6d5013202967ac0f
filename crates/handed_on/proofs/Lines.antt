-- Many lines: where a call accepts, none of the checks refuses a target that it hands on. Each line is a part of the items, which as one line are accepted. Assumes nothing.
use mathlib.Core.Path.{◌≡◌, refl, sym, ap, ◌∙◌, subst}
use mathlib.Core.Logic.{◌⊎◌, inl, inr}
use mathlib.Core.List.{List, [], ◌∷◌, ◌++◌}
use Prim.Native.Nat.{ℕ, zero, suc, ◌+◌, ◌-◌, ◌≤◌, ◌<◌}
use native.Mathlib.Nat.{le_trans, le_of_eq, eq-or-lt_of_le, le_of_suc-le-suc}
use native.Mathlib.Omega.{arith}
use native.Mathlib.Decide.{dec_lt}
use lib.ListN.{length, get_or, drop}
use lib.Seq.{get_or-take, get_or-drop}
use lib.IntN.{ℤ}
use lib.Ieee.{Float, nan}
use Rattle.grid.specs.Grid.{cleaned}
use Rattle.checks.specs.Domain.{float, summed, checked, done}
use Rattle.checks.specs.Marks.{Fine}
use Rattle.checks.specs.declared.Kind.TheVariants as kind
use Rattle.std.specs.declared.result.Result.TheVariants.{Ok}
use Rattle.checks.proofs.Checks.{accepted, then_passed}
use Rattle.lists.specs.Cells.{sum_up_to, each}
use Rattle.lists.specs.ByLine.{line_start, Division}
use Rattle.lists.proofs.Each.{length-each}
use Rattle.lists.proofs.UpTo.{sum_past}
use Rattle.flex.specs.declared.Item.{Item}
use Rattle.flex.specs.Flex.{targets, outer_sum}
use Rattle.flex.specs.Items.{Lists, count, item_at, items_of}
use Rattle.flex_lines.specs.Lines.{line_items, FlexedLines}
use Rattle.flex_table.proofs.Each.{outer_snoc}
use Rattle.flex_checks.specs.Counts.{lines_shape, lines_input}
use Rattle.flex_checks.proofs.Division.{division-fine, shape_of}
use Rattle.flex_lines_call.specs.Lines.{room_of, lines_verdict, FlexedByLine}
use Rattle.flex_reach.specs.Reach.{IsItem, IsLine, Each}
use Rattle.flex_reach.proofs.Reach.{reach}
use Rattle.flex_reach.proofs.Line.{Singles}
use Rattle.flex_reach.proofs.Line.{cell, each_is, long_targets, line_of_checks}

-- the sum of a part is at most that of all
outer_parts : (gap : Float) (g : ℕ → Item) (a c : ℕ) → outer_sum gap (each (a + c) g) ≡ outer_sum gap (each a g) + outer_sum gap (each c (λ i. g (a + i)))
unfolding each outer_sum
outer_parts gap g a zero = let e : a + 0 ≡ a = omega arith in ap (λ (k : ℕ). outer_sum gap (each k g)) e ∙ omega arith
outer_parts gap g a (suc c) =
    let e : a + suc c ≡ suc (a + c) = omega arith in
    let p = outer_snoc gap (each (a + c) g) (g (a + c)) in
    let q = outer_snoc gap (each c (λ i. g (a + i))) (g (a + c)) in
    ap (λ (k : ℕ). outer_sum gap (each k g)) e ∙ p ∙ omega (arith, outer_parts gap g a c, q)

outer_line : (gap : Float) (g : ℕ → Item) (a c n : ℕ) → a + c ≤ n → outer_sum gap (each c (λ i. g (a + i))) ≤ outer_sum gap (each n g)
outer_line gap g a c n h =
    let e : a + c + (n - (a + c)) ≡ n = omega arith in
    let p = outer_parts gap g (a + c) (n - (a + c)) in
    let q = outer_parts gap g a c in
    subst (λ (k : ℕ). outer_sum gap (each c (λ i. g (a + i))) ≤ outer_sum gap (each k g)) e (omega (arith, p, q))

-- item i of the first n
of_each : (n : ℕ) (f : ℕ → Item) → Each IsItem (each n f) → (i : ℕ) → i < n → IsItem (f i)
unfolding each
of_each zero f h i l = absurd (omega arith)
of_each (suc n) f h i l = let b = both (each n f) h in go (eq-or-lt_of_le (le_of_suc-le-suc l)) b.1 (λ m. of_each n f b.0 i m)
  where
    both : (l : List Item) → Each IsItem (l ++ (f n ∷ [])) → Each IsItem l × IsItem (f n)
    both [] e = (tt, e.0)
    both (x ∷ l) e = let b = both l e.1 in ((e.0, b.0), b.1)

    go : (i ≡ n) ⊎ (i < n) → IsItem (f n) → (i < n → IsItem (f i)) → IsItem (f i)
    go (inl e) last r = subst (λ (k : ℕ). IsItem (f k)) (sym e) last
    go (inr m) last r = r m

module _ (inner gap : Float) (item : ℕ → Item) (n : ℕ) (counts : List ℕ) (whole : IsLine inner gap (each n item)) (divided : Division counts n) where
  ends : (j : ℕ) → j < length counts → line_start counts j + get_or counts j 0 ≤ n
  ends j h = subst (λ (k : ℕ). line_start counts j + get_or counts j 0 ≤ k) divided (sum_past (λ i. get_or counts i 0) j (length counts) h)

  part_is : (j : ℕ) → j < length counts → IsLine inner gap (line_items item counts j)
  part_is j h =
      let s = line_start counts j in
      let c = get_or counts j 0 in
      record {
        inner_is = whole.inner_is;
        gap_is = whole.gap_is;
        items_are = each_is c (λ i. item (s + i)) (λ i l. of_each n item whole.items_are (s + i) (omega (arith, ends j h)));
        few = omega (arith, length-each c (λ i. item (s + i)), ends j h, length-each n item, whole.few);
        sum = le_trans (outer_line gap item s c n (ends j h)) whole.sum;
      }

  module _ {sum : ℕ} {t₀ t : List Float} {f₀ f : List ℤ} {r₀ r : List ℕ} (lines : FlexedLines inner gap item n counts sum t₀ f₀ r₀ t f r) where
    -- cell d of line j
    part_reach : (j : ℕ) → j < length counts → (d : ℕ) → d < get_or counts j 0 → Fine (float kind.Worked (get_or t (line_start counts j + d) nan))
    part_reach j h d l =
        let s = line_start counts j in
        let c = get_or counts j 0 in
        let items = line_items item counts j in
        let flexed = lines.line j h in
        let ts = targets inner gap items (get_or r j 0) in
        subst (λ (x : Float). Fine (float kind.Worked x)) (ap (λ (p : List Float). get_or p d nan) (sym flexed.cells) ∙ get_or-take c (drop s t) d nan l ∙ get_or-drop s t d nan)
        (cell ts (drop (length items) []) (reach inner gap items (part_is j h) (get_or r j 0) flexed.number) d
        (le_trans l (le_of_eq (sym (long_targets inner gap items (get_or r j 0) ∙ length-each c (λ i. item (s + i)))))))

    -- the cells of the first k lines
    up_to : (k : ℕ) → k ≤ length counts → (i : ℕ) → i < line_start counts k → Fine (float kind.Worked (get_or t i nan))
    unfolding sum_up_to
    up_to zero h i l = absurd (omega arith)
    up_to (suc k) h i l = go (dec_lt i (line_start counts k)) (λ b. up_to k (omega arith) i b)
      where
        go : Dec (i < line_start counts k) → (i < line_start counts k → Fine (float kind.Worked (get_or t i nan))) → Fine (float kind.Worked (get_or t i nan))
        go (yes b) r = r b
        go (no b) r =
            let e : line_start counts k + (i - line_start counts k) ≡ i = omega arith in
            subst (λ (m : ℕ). Fine (float kind.Worked (get_or t m nan))) e (part_reach k (omega arith) (i - line_start counts k) (omega arith))

    pub all_reach : (i : ℕ) → i < n → Fine (float kind.Worked (get_or t i nan))
    all_reach i l = up_to (length counts) (le_of_eq refl) i (le_trans l (le_of_eq (sym divided)))

-- the targets that an accepted call writes are numbers that a later step takes
module _ (inner gap : Float) (counts : List ℕ) (ls : Lists) (grow : Singles ls.grow (count ls)) (shrink : Singles ls.shrink (count ls)) where
  whole_is : (room : ℕ) → lines_verdict inner gap counts ls room ≡ Ok tt → IsLine (cleaned inner) (cleaned gap) (items_of ls) × Division counts (count ls)
  unfolding lines_verdict
  whole_is room e =
      let rest = summed (outer_sum (cleaned gap) (items_of ls)) in
      let p = then_passed (lines_shape counts ls room) (checked (lines_input inner gap counts ls) rest) e in
      let q = accepted (lines_input inner gap counts ls) rest p.1 in
      (line_of_checks inner gap ls grow shrink q.0.container.0 q.0.container.1.0 q.0.items (shape_of counts ls room p.0).1.few q.1, (division-fine counts (count ls) q.0.container.1.1.0).0)

  pub lines_reach : (k sum : ℕ) (t₀ : List Float) (f₀ : List ℤ) (r₀ : List ℕ) (t : List Float) (f : List ℤ) (r : List ℕ)
      → FlexedByLine inner gap counts ls (done k sum) t₀ f₀ r₀ t f r
      → (i : ℕ) → i < count ls → Fine (float kind.Worked (get_or t i nan))
  lines_reach k sum t₀ f₀ r₀ t f r p = let w = whole_is (room_of t₀ f₀ r₀) p.0 in all_reach (cleaned inner) (cleaned gap) (item_at ls) (count ls) counts w.0 w.1 p.2
