-- An accepted run leaves no choice, by the same of each stage in turn. Assumes nothing.
use mathlib.Core.Path.{◌≡◌, sym, ap, ap₂, ◌∙◌, subst}
use mathlib.Core.List.{List, [], ◌++◌}
use Prim.Native.Nat.{ℕ, zero, suc, ◌*◌, ◌≤◌, ◌<◌}
use native.Mathlib.Nat.{le_trans, le_of_eq, zero-mul, suc-mul}
use native.Mathlib.Omega.{arith}
use lib.ListN.{length, take, take-append-drop, length-map}
use lib.Seq.{take-add}
use lib.IntN.{ℤ}
use lib.Ieee.{Float}
use Rattle.grid.specs.Grid.{cleaned}
use Rattle.flex.specs.Items.{item_at, items_of}
use Rattle.lists.proofs.Each.{length-each}
use Rattle.flex_lines.specs.Lines.{FlexedLines}
use Rattle.flex_lines.proofs.Alone.{OneFlexed, one-flexed}
use Rattle.balance.specs.Calls as balance
use Rattle.pass_break.specs.Outer.{outer_sizes}
use Rattle.pass_break.proofs.Division.{no_choice, wrapped_divides}
use Rattle.keywords.specs.Alignment.{content_of}
use Rattle.keywords.specs.Wrapping.{is_reversed}
use Rattle.place_cross.specs.Lines.{Aligned}
use Rattle.lists.specs.ByLine.{Division}
use Rattle.lists.specs.Cells.{Past}
use Rattle.pass_walk.specs.Main.{MainLines}
use Rattle.pass_walk.specs.Sizes.{cross_sizes}
use Rattle.pass_walk_across.specs.Cross.{AcrossLines}
use Rattle.pass_walk.proofs.Spacing as spacing
use Rattle.pass_walk_across.proofs.Placing as placing
use Rattle.pass_container.specs.declared.Container.{Container}
use Rattle.pass_container.specs.Columns.{column, main_lists, cross_items, align_self, auto_size, zeros, main_items}
use Rattle.pass_container.specs.Container.{limit_space, reversed, wrap_mode, break_mode, cross_axis}
use Rattle.pass_container.specs.Stages.{ItemLists}
use Rattle.pass_container.proofs.ColumnLaws.{take_none, before, length-column}
use Rattle.pass_checks.proofs.Taken.{number_length}
use Rattle.pass.specs.Laid.{PassLent, pass_lent, Laid}

-- ---- lists of lists

-- lists of n cells one after another that are the same
fronts : (n m : ℕ) (a b : List Float) → ((j : ℕ) → j < m → column n j a ≡ column n j b) → take (m * n) a ≡ take (m * n) b
unfolding column
fronts n zero a b h = ap (λ (k : ℕ). take k a) (zero-mul n) ∙ take_none a ∙ sym (ap (λ (k : ℕ). take k b) (zero-mul n) ∙ take_none b)
fronts n (suc m) a b h =
    ap (λ (k : ℕ). take k a) (suc-mul m n) ∙ take-add (m * n) n a
    ∙ ap₂ (λ (y z : List Float). y ++ z) (fronts n m a b (λ j l. h j (omega arith))) (h m (omega arith))
    ∙ sym (ap (λ (k : ℕ). take k b) (suc-mul m n) ∙ take-add (m * n) n b)

by_columns : (n m : ℕ) (old a b : List Float) → Past (m * n) old a → Past (m * n) old b → ((j : ℕ) → j < m → column n j a ≡ column n j b) → a ≡ b
by_columns n m old a b p q h = sym (take-append-drop (m * n) a) ∙ ap₂ (λ (y z : List Float). y ++ z) (fronts n m a b h) (p.rest ∙ sym q.rest) ∙ take-append-drop (m * n) b

-- ---- an accepted run

same : {a d : PassLent} → a.placed ≡ d.placed → a.lines ≡ d.lines → a.counts ≡ d.counts → a.rounds ≡ d.rounds → a.free ≡ d.free → a.work ≡ d.work → a.sums ≡ d.sums → a ≡ d
same {a} {d} p1 p2 p3 p4 p5 p6 p7 = go p1 p2 p3 p4 p5 p6 p7
  where
    go : {p l s p' l' s' : List Float} {k r w k' r' w' : List ℕ} {f f' : List ℤ} → p ≡ p' → l ≡ l' → k ≡ k' → r ≡ r' → f ≡ f' → w ≡ w' → s ≡ s' → pass_lent p l k r f w s ≡ pass_lent p' l' k' r' f' w' s'
    go q1 q2 q3 q4 q5 q6 q7 = cc

module _ (c : Container) (n : ℕ) (x : List Float) (codes : List ℕ) (b : PassLent) (l : ItemLists n x codes) (room : 8 * n ≤ length b.placed) where
  many : length (outer_sizes (items_of (main_lists n x codes))) ≡ n
  many = length-map (items_of (main_lists n x codes)) _ ∙ length-each (length (column n 0 x)) (item_at (main_lists n x codes)) ∙ number_length l 0 (omega arith)

  module _ {k k' sum sum' : ℕ} {inner inner' : Float} {a d : PassLent} (p : Laid c n x codes b k sum inner a) (q : Laid c n x codes b k' sum' inner' d) where
    lines_one : (k ≡ k') × (balance.break_lent a.counts a.work a.sums ≡ balance.break_lent d.counts d.work d.sums)
    lines_one = no_choice (limit_space c) (cleaned c.gap_main) c.minimum_lines (outer_sizes (items_of (main_lists n x codes))) (break_mode c) _ k k' _ _ p.broken q.broken

    counts_one : take k' d.counts ≡ take k a.counts
    counts_one = sym (ap₂ (λ (j : ℕ) (y : balance.BreakLent). take j y.counts) lines_one.0 lines_one.1)

    division : Division (take k a.counts) n
    division = (wrapped_divides (limit_space c) (cleaned c.gap_main) c.minimum_lines (outer_sizes (items_of (main_lists n x codes))) (break_mode c) p.broken).whole ∙ many

    flexed-one : OneFlexed sum sum' (column n 0 a.placed) (column n 0 d.placed) a.free d.free a.rounds d.rounds
    flexed-one = one-flexed (take k a.counts) division p.flexed (subst (λ (y : List ℕ). FlexedLines (cleaned c.inner_main) (cleaned c.gap_main) (item_at (main_lists n x codes)) n y sum' (zeros n) b.free b.rounds (column n 0 d.placed) d.free d.rounds) counts_one q.flexed)

    targets_many : length (column n 0 a.placed) ≡ n
    targets_many = length-column n 0 a.placed (le_trans {m = 8 * n} (before n 0 8 (omega arith)) (le_trans {m = length b.placed} room (le_of_eq (sym p.placed_past.long))))

    spaced-one : spacing.Same (column n 1 a.placed) (column n 2 a.placed) (column n 3 a.placed) (column n 1 d.placed) (column n 2 d.placed) (column n 3 d.placed)
    spaced-one =
        spacing.main_determined (take k a.counts) (main_items n x codes (column n 0 a.placed)) (zeros n) (zeros n) (zeros n) (division ∙ sym targets_many) p.spaced
        (subst (λ (y : List Float). MainLines c.inner_main c.gap_main (content_of c.justify_content) (reversed c) (take k a.counts) (main_items n x codes y) (zeros n) (zeros n) (zeros n) (column n 1 d.placed) (column n 2 d.placed) (column n 3 d.placed)) (sym flexed-one.targets)
        (subst (λ (y : List ℕ). MainLines c.inner_main c.gap_main (content_of c.justify_content) (reversed c) y (main_items n x codes (column n 0 d.placed)) (zeros n) (zeros n) (zeros n) (column n 1 d.placed) (column n 2 d.placed) (column n 3 d.placed)) counts_one q.spaced))

    aligned_one : (inner ≡ inner') × (column n 0 a.lines ≡ column n 0 d.lines) × (column n 1 a.lines ≡ column n 1 d.lines)
    aligned_one =
        let u = p.aligned in
        let v = subst (λ (y : List ℕ). Aligned (cross_axis c) (content_of c.align_content) (cross_sizes (cross_axis c) y (cross_items n x codes) []) (zeros n) (zeros n) inner' (column n 0 d.lines) (column n 1 d.lines)) counts_one q.aligned in
        (u.inner_is ∙ sym v.inner_is, u.sizes_are ∙ sym v.sizes_are, u.offsets_are ∙ sym v.offsets_are)

    across_one : placing.Same (column n 4 a.placed) (column n 6 a.placed) (column n 7 a.placed) (column n 5 a.placed) (column n 4 d.placed) (column n 6 d.placed) (column n 7 d.placed) (column n 5 d.placed)
    across_one =
        placing.across_determined (take k a.counts) (column n 0 a.lines) (cross_items n x codes) (align_self n codes) (auto_size n codes) (zeros n) (zeros n) (zeros n) (zeros n) (division ∙ sym (number_length l 8 (omega arith))) p.across
        (subst (λ (y : List Float). AcrossLines (is_reversed (wrap_mode c)) (take k a.counts) y (cross_items n x codes) (align_self n codes) (auto_size n codes) (zeros n) (zeros n) (zeros n) (zeros n) (column n 4 d.placed) (column n 6 d.placed) (column n 7 d.placed) (column n 5 d.placed)) (sym aligned_one.1)
        (subst (λ (y : List ℕ). AcrossLines (is_reversed (wrap_mode c)) y (column n 0 d.lines) (cross_items n x codes) (align_self n codes) (auto_size n codes) (zeros n) (zeros n) (zeros n) (zeros n) (column n 4 d.placed) (column n 6 d.placed) (column n 7 d.placed) (column n 5 d.placed)) counts_one q.across))

    placed_one : a.placed ≡ d.placed
    placed_one = by_columns n 8 b.placed a.placed d.placed p.placed_past q.placed_past each
      where
        each : (j : ℕ) → j < 8 → column n j a.placed ≡ column n j d.placed
        each zero h = flexed-one.targets
        each (suc zero) h = spaced-one.offsets_same
        each (suc (suc zero)) h = spaced-one.starts_same
        each (suc (suc (suc zero))) h = spaced-one.ends_same
        each (suc (suc (suc (suc zero)))) h = across_one.sizes_same
        each (suc (suc (suc (suc (suc zero))))) h = across_one.offsets_same
        each (suc (suc (suc (suc (suc (suc zero)))))) h = across_one.starts_same
        each (suc (suc (suc (suc (suc (suc (suc zero))))))) h = across_one.ends_same
        each (suc (suc (suc (suc (suc (suc (suc (suc j)))))))) h = absurd (omega arith)

    lists-one : a.lines ≡ d.lines
    lists-one = by_columns n 2 b.lines a.lines d.lines p.lines_past q.lines_past each
      where
        each : (j : ℕ) → j < 2 → column n j a.lines ≡ column n j d.lines
        each zero h = aligned_one.1
        each (suc zero) h = aligned_one.2
        each (suc (suc j)) h = absurd (omega arith)

    -- ANY TWO ACCEPTED RUNS ON THE SAME ARE EQUAL
    pub laid_one : (k ≡ k') × (sum ≡ sum') × (inner ≡ inner') × (a ≡ d)
    laid_one =
        let w = lines_one.1 in (
          lines_one.0,
          flexed-one.sums,
          aligned_one.0,
          same placed_one lists-one (ap (λ (y : balance.BreakLent). y.counts) w) flexed-one.rounds flexed-one.free (ap (λ (y : balance.BreakLent). y.work) w) (ap (λ (y : balance.BreakLent). y.sums) w),
        )
