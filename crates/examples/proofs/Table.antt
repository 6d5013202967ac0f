-- Every row of the table holds: balanced breaking by a test that tries every division (Check.antt), the other rows by computing the definitions.
-- Assumes nothing.
use mathlib.Core.Path.{◌≡◌, refl, sym, ap, ◌∙◌, subst}
use mathlib.Core.Logic.{◌⊎◌, inl, inr}
use mathlib.Core.Bool.{false}
use mathlib.Core.List.{List, [], ◌∷◌, ◌++◌, map}
use Prim.Native.Nat.{ℕ, zero, suc, ◌*◌, ◌<◌}
use native.Mathlib.Nat.{eq-or-lt_of_le, le_of_suc-le-suc}
use native.Mathlib.Omega.{arith}
use lib.Dec.{T, leb, ltb, ltb→lt, leb→le}
use lib.ListN.{length, drop}
use lib.IntN.{ℤ}
use lib.Ieee.{Float, of_int, of_bits, add, sub, neg, mul, div, lt, le, eq}
use Rattle.grid.specs.Grid.{sixty_fourths, cleaned}
use Rattle.break_greedy.specs.Breaking.{Limit, fits, line_size, taken, lines_of, greedy}
use Rattle.balance_rule.specs.Rule.{Balanced}
use Rattle.balance_rule.proofs.Unique.{balanced_one}
use Rattle.flex.specs.declared.Item.{Item}
use Rattle.flex.specs.declared.Line.{Line}
use Rattle.lists.specs.Cells.{each, overwritten}
use Rattle.grid.specs.Floats.{gaps}
use Rattle.flex.specs.Flex.{Cell, Runs, sum_from, clamp, sum_units, inflexible, left, limited, share, flexed, violation, freezes, settle, round, after, free_before, targets, line_of, begun, unfrozen}
use Rattle.flex.proofs.Falls.{rounds_one}
use Rattle.keywords.specs.declared.Distribution.{Distribution}
use Rattle.keywords.specs.declared.Distribution.TheVariants.{Stretch}
use Rattle.keywords.specs.declared.ContentAlignment.TheVariants.{Spread}
use Rattle.place_align.specs.Align.{fallback, made_safe, positioned, first_offset, later_offset}
use Rattle.place_align.specs.Axis as axis
use Rattle.place_align.specs.Sums.{total_up_to}
use Rattle.place_main.specs.MainAxis as main
use Rattle.keywords.specs.Wrapping.{is_reversed}
use Rattle.place_size.specs.Container.{read_cross, bounded}
use Rattle.place_cross.specs.Lines.{gain_to, gain, grown, grown_at, line_gain, container_size, free_cross, Aligned}
use Rattle.examples.specs.Table.{whole_px, px, flexible, none, half, Row, table, onto, container, Plain, RowHolds, AllHold}
use Rattle.examples.specs.Table as row
use Rattle.examples.proofs.Check.{Case, case_b, case_by_test}

-- ---- breaking

-- a row with the greedy counts, for the test
abbrev case_of : List ℕ → Limit → ℕ → ℕ → List ℕ → List ℕ → Case
case_of sizes l gap minimum counts first = record { limit = l; gap = gap * 64; sizes = map whole_px sizes; minimum = minimum; greedy = first; counts = counts }

balances : (sizes : List ℕ) (l : Limit) (gap minimum : ℕ) (counts first : List ℕ) → T (case_b (case_of sizes l gap minimum counts first)) → RowHolds (row.balanced sizes l gap minimum counts)
balances sizes l gap minimum counts first t =
    let b : Balanced l (whole_px gap) (map whole_px sizes) minimum counts = case_by_test (case_of sizes l gap minimum counts first) t in
    (b, λ d c. balanced_one l (whole_px gap) (map whole_px sizes) minimum d counts c b)

-- ---- flexing

module _ (inner : ℕ) (items : List Item) where
  abbrev line : Line
  line = line_of (px inner) (px 0) items

  abbrev cells : List Cell
  cells = begun (px inner) (px 0) items

  -- unfrozen items before each of the first n rounds
  abbrev Before : ℕ → Type 0
  Before zero = Unit {0}
  Before (suc n) = Before n × T (ltb 0 (unfrozen (after line n cells)))

  needed_of : (n : ℕ) → Before n → (k : ℕ) → k < n → 0 < unfrozen (after line k cells)
  needed_of zero h k l = absurd (below k l)
    where
      below : (k : ℕ) → k < 0 → ⊥
      below k l = omega arith
  needed_of (suc n) h k l = last (eq-or-lt_of_le (le_of_suc-le-suc l)) (needed_of n h.0)
    where
      last : (k ≡ n) ⊎ (k < n) → ((k : ℕ) → k < n → 0 < unfrozen (after line k cells)) → 0 < unfrozen (after line k cells)
      last (inl e) f = subst (λ (j : ℕ). 0 < unfrozen (after line j cells)) (sym e) (ltb→lt 0 (unfrozen (after line n cells)) h.1)
      last (inr m) f = f k m

  -- what is computed of a line
  record Computed (free : ℤ) (sizes : List ℕ) (rounds : ℕ) : Type 0 where
    free_is : free_before (px inner) (px 0) items ≡ free
    sizes_are : targets (px inner) (px 0) items rounds ≡ map px sizes
    over : unfrozen (after line rounds cells) ≡ 0
    needed : Before rounds
    few : T (leb rounds (length items))
    as_many : length sizes ≡ length items

  flexes : (free : ℤ) (sizes : List ℕ) (rounds : ℕ) → Computed free sizes rounds → RowHolds (row.flexed inner items free sizes rounds)
  flexes free sizes rounds h = (
    λ old. record { space = sym h.free_is; number = runs; few = leb→le rounds (length items) h.few; cells = sym (answers old) },
    λ z r old new f.
        let e = rounds_one line cells r rounds f.number runs in
        (f.space ∙ h.free_is, e, f.cells ∙ ap (λ (n : ℕ). targets (px inner) (px 0) items n ++ drop (length items) old) e ∙ answers old),
  )
    where
      runs : Runs line cells rounds
      runs = record { needed = needed_of rounds h.needed; over = h.over }

      answers : (old : List Float) → targets (px inner) (px 0) items rounds ++ drop (length items) old ≡ onto sizes old
      answers old = ap (λ (a : List Float). a ++ drop (length items) old) h.sizes_are ∙ ap (λ (k : ℕ). map px sizes ++ drop k old) (sym h.as_many)

-- ---- the main axis

abbrev offsets_of : ℕ → Float → ℕ → ℕ → Distribution → ℕ → Float
offsets_of n free autos gap keyword = axis.offsets (main.justified free autos) n (cleaned (px gap)) (Spread keyword) false

spaces : (n free gap : ℕ) (keyword : Distribution) (offsets : List ℕ) → each n (offsets_of n (px free) 0 gap keyword) ≡ map px offsets → length offsets ≡ n
    → (inner : Float) (l : main.LineLists) → Plain inner l n free gap → (o s e o₁ s₁ e₁ : List Float) → main.Spaced inner (px gap) (Spread keyword) false l o s e o₁ s₁ e₁ → o₁ ≡ onto offsets o
spaces n free gap keyword offsets h m inner l q o s e o₁ s₁ e₁ p =
    p.offsets_are
    ∙ ap (λ (k : ℕ). overwritten k (offsets_of k (main.free_space inner (px gap) l) (main.auto_count l) gap keyword) o) q.items
    ∙ ap (λ (k : ℕ). overwritten n (offsets_of n (main.free_space inner (px gap) l) k gap keyword) o) q.autos
    ∙ ap (λ (x : Float). overwritten n (offsets_of n x 0 gap keyword) o) q.space
    ∙ ap (λ (a : List Float). a ++ drop n o) h
    ∙ ap (λ (k : ℕ). map px offsets ++ drop k o) (sym m)

-- a line of three items of 10 in 100
ten : main.LineLists
ten = main.line_lists (map px (10 ∷ 10 ∷ 10 ∷ [])) (map px (0 ∷ 0 ∷ 0 ∷ [])) (map px (0 ∷ 0 ∷ 0 ∷ [])) (0 ∷ 0 ∷ 0 ∷ []) (0 ∷ 0 ∷ 0 ∷ [])

-- ---- the cross axis

abbrev grown_of : List ℕ → ℕ → ℕ → ℕ → Float
grown_of lines gap size = grown_at (line_gain (read_cross (container gap size)) (Spread Stretch) (map px lines)) (map px lines)

stretches : (lines : List ℕ) (gap size : ℕ) (sizes : List ℕ) → each (length (map px lines)) (grown_of lines gap size) ≡ map px sizes → length sizes ≡ length (map px lines)
    → (s o s₁ o₁ : List Float) (inner : Float) → Aligned (container gap size) (Spread Stretch) (map px lines) s o inner s₁ o₁ → s₁ ≡ onto sizes s
stretches lines gap size sizes h m s o s₁ o₁ inner p =
    p.sizes_are ∙ ap (λ (a : List Float). a ++ drop (length (map px lines)) s) h ∙ ap (λ (k : ℕ). map px sizes ++ drop k s) (sym m)

-- ---- THE TABLE: what is computed of a row, and all rows

abbrev Computes : Row → Type 0
Computes (row.balanced sizes l gap minimum counts) = (first : List ℕ) × T (case_b (case_of sizes l gap minimum counts first))
Computes (row.greedily sizes l gap counts) = greedy l (whole_px gap) (map whole_px sizes) ≡ counts
Computes (row.flexed inner items free sizes rounds) = Computed inner items free sizes rounds
Computes (row.spaced n free gap keyword offsets) =
    ((inner : Float) × (l : main.LineLists) × Plain inner l n free gap) × (each n (offsets_of n (px free) 0 gap keyword) ≡ map px offsets) × (length offsets ≡ n)
Computes (row.stretched lines gap size sizes) = (each (length (map px lines)) (grown_of lines gap size) ≡ map px sizes) × (length sizes ≡ length (map px lines))

holds : (r : Row) → Computes r → RowHolds r
holds (row.balanced sizes l gap minimum counts) t = balances sizes l gap minimum counts t.0 t.1
holds (row.greedily sizes l gap counts) t = t
holds (row.flexed inner items free sizes rounds) t = flexes inner items free sizes rounds t
holds (row.spaced n free gap keyword offsets) t = (
  t.0,
  λ inner l q o s e.
      let only : (o₁ s₁ e₁ : List Float) → main.Spaced inner (px gap) (Spread keyword) false l o s e o₁ s₁ e₁ → o₁ ≡ onto offsets o = λ o₁ s₁ e₁ p. spaces n free gap keyword offsets t.1 t.2 inner l q o s e o₁ s₁ e₁ p in
      let share = main.auto_share (main.free_space inner (px gap) l) (main.auto_count l) in
      let o₁ = overwritten (main.count l) (offsets_of (main.count l) (main.free_space inner (px gap) l) (main.auto_count l) gap keyword) o in
      let s₁ = overwritten (main.count l) (axis.margin_at share l.auto_start l.start) s in
      let e₁ = overwritten (main.count l) (axis.margin_at share l.auto_end l.end) e in
      ((s₁, e₁, record { offsets_are = sym (only o₁ s₁ e₁ (record { offsets_are = refl; starts_are = refl; ends_are = refl })); starts_are = refl; ends_are = refl }), only),
)
holds (row.stretched lines gap size sizes) t = λ s o.
    let c = read_cross (container gap size) in
    let ls = map px lines in
    let only : (inner : Float) (s₁ o₁ : List Float) → Aligned (container gap size) (Spread Stretch) ls s o inner s₁ o₁ → s₁ ≡ onto sizes s = λ inner s₁ o₁ p. stretches lines gap size sizes t.0 t.1 s o s₁ o₁ inner p in
    let inner = cleaned (container_size c (Spread Stretch) ls) in
    let s₁ = overwritten (length ls) (grown_of lines gap size) s in
    let o₁ = overwritten (length ls) (axis.offsets (free_cross c (Spread Stretch) ls) (length ls) c.gap (Spread Stretch) (is_reversed c.wrap)) o in
    ((inner, o₁, record { inner_is = refl; sizes_are = sym (only inner s₁ o₁ (record { inner_is = refl; sizes_are = refl; offsets_are = refl })); offsets_are = refl }), only)

abbrev All : List Row → Type 0
All [] = Unit {0}
All (r ∷ rows) = Computes r × All rows

every : (rows : List Row) → All rows → AllHold rows
every [] t = tt
every (r ∷ rows) t = (holds r t.0, every rows t.1)

infixr 10 ◌&◌
◌&◌ : {A B : Type 0} → A → B → A × B
a & b = (a, b)

computed : All table
unfolding table greedy lines_of taken fits line_size px half none flexible sum_from clamp sum_units inflexible left gaps limited share flexed violation freezes settle round after sixty_fourths each ten main.main_outer main.free_space main.auto_count main.justified axis.margin axis.autos axis.offsets axis.stepped fallback made_safe positioned first_offset later_offset container read_cross total_up_to bounded gain_to gain grown line_gain cleaned of_int of_bits add sub neg mul div lt le eq
computed =
    (2 ∷ 1 ∷ [], tt)
    & refl
    & (1 ∷ 2 ∷ [], tt)
    & (3 ∷ [], tt)
    & (3 ∷ [], tt)
    & (3 ∷ 1 ∷ [], tt)
    & refl
    & (2 ∷ [], tt)
    & refl
    & (1 ∷ [], tt)
    & ([], tt)
    & (2 ∷ [], tt)
    & record { free_is = refl; sizes_are = refl; over = refl; needed = (tt, tt); few = tt; as_many = refl }
    & record { free_is = refl; sizes_are = refl; over = refl; needed = ((tt, tt), tt); few = tt; as_many = refl }
    & record { free_is = refl; sizes_are = refl; over = refl; needed = (tt, tt); few = tt; as_many = refl }
    & record { free_is = refl; sizes_are = refl; over = refl; needed = (tt, tt); few = tt; as_many = refl }
    & ((px 100, ten, record { items = refl; autos = refl; space = refl }), refl, refl)
    & (refl, refl)
    & (2 ∷ 4 ∷ 1 ∷ [], tt)
    & tt

pub table_holds : AllHold table
table_holds = every table computed
