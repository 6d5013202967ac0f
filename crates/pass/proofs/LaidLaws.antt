-- The stages' answers put together are an accepted run: a list that one stage wrote outlives the later ones. Assumes nothing.
use mathlib.Core.Path.{◌≡◌, sym, ap, ◌∙◌, subst}
use mathlib.Core.List.{List}
use Prim.Native.Nat.{ℕ, ◌*◌, ◌≤◌, ◌<◌}
use native.Mathlib.Nat.{zero-mul, le_trans, le_of_eq}
use native.Mathlib.Omega.{arith}
use lib.ListN.{length, take, drop, length-replicate}
use lib.Seq.{length-take-le}
use lib.IntN.{ℤ}
use lib.Ieee.{Float}
use Rattle.grid.specs.Grid.{cleaned}
use Rattle.grid.specs.Floats.{nought}
use Rattle.flex.specs.declared.Item.{Item}
use Rattle.flex.specs.Items.{item_at, items_of}
use Rattle.flex_table.specs.Table.{items_in, Held}
use Rattle.flex_table.proofs.Items.{items_are}
use Rattle.flex_lines.specs.Lines.{FlexedLines}
use Rattle.keywords.specs.Alignment.{content_of}
use Rattle.pass_walk.specs.Main.{MainLines}
use Rattle.balance.specs.Calls as balance
use Rattle.pass_break.specs.Wrapping as wrapping
use Rattle.pass_break.specs.Outer.{outer_sizes}
use Rattle.pass_container.specs.declared.Container.{Container}
use Rattle.pass_container.specs.Columns.{column, main_lists, zeros, main_items}
use Rattle.pass_container.specs.Container.{limit_space, reversed, break_mode}
use Rattle.pass_container.specs.Stages.{ItemLists}
use Rattle.pass_checks.proofs.Taken.{number_length}
use Rattle.pass_break.specs.BreakStage.{LinesBroken}
use Rattle.pass_break.proofs.BreakLaws.{divides_of}
use Rattle.pass_main.specs.Stage as main
use Rattle.pass.specs.Laid.{pass_lent, Laid}
use Rattle.pass.specs.Stages.{MainAsked, MainLaid, CrossAsked, CrossLaid}

-- ---- the first list

pub first-column : {A : Type 0} (n : ℕ) (l : List A) → take n l ≡ column n 0 l
unfolding column
first-column n l = ap (λ (k : ℕ). take n (drop k l)) (sym (zero-mul n))

pub first_long : {A : Type 0} (n m : ℕ) (l : List A) → n ≤ m → m ≤ length l → length (take n l) ≡ n
first_long n m l h k = length-take-le n l (omega arith)

-- ---- the table holds the items

pub items_in_lem : {n : ℕ} (t : List Item) {x : List Float} {codes : List ℕ} → ItemLists n x codes → Held (main_lists n x codes) t → items_in t 0 n ≡ items_of (main_lists n x codes)
items_in_lem {n} t {x} {codes} l held = ap (items_in t 0) (sym (number_length l 0 (omega arith))) ∙ items_are (main_lists n x codes) t held

-- ---- what the main axis asks

pub main_ready : {c : Container} {n : ℕ} {t : List Item} {x : List Float} {codes : List ℕ} {placed : List Float} {counts rounds : List ℕ} {free : List ℤ} {work : List ℕ} {sums : List Float} {k : ℕ} {a : balance.BreakLent}
    → MainAsked c n t x codes placed counts rounds free work sums → LinesBroken c n t (balance.break_lent counts work sums) k a → main.MainStageReady c n t x codes (take k a.counts) free rounds
main_ready {c} {n} {t} m w =
    let d = divides_of c n t w in
    record {
      listed = m.listed;
      held = m.held;
      lined = record {
        divided = record {
          wide = m.breaks.wide;
          inner_is = m.inner_is;
          gap_is = m.gap_is;
          tabled = m.tabled;
          whole = d.whole;
          positive = d.positive;
          room = le_of_eq (sym (length-replicate n nought));
          free_room = m.free_room;
          rounds_room = m.rounds_room;
        };
        within = m.within;
      };
    }

-- ---- all of it

module _ {c : Container} {n : ℕ} {t : List Item} {x : List Float} {codes : List ℕ} {placed₀ : List Float} {counts₀ rounds₀ : List ℕ} {free₀ : List ℤ} {work₀ : List ℕ} {sums₀ : List Float} {k sum : ℕ} {p : List Float} {counts rounds : List ℕ} {free : List ℤ} {work : List ℕ} {sums : List Float}
    (m : MainLaid c n t x codes placed₀ counts₀ rounds₀ free₀ work₀ sums₀ k sum p counts rounds free work sums) where
  -- what the cross axis asks
  pub cross_asked : {lines₀ : List Float} → MainAsked c n t x codes placed₀ counts₀ rounds₀ free₀ work₀ sums₀ → 2 * n ≤ length lines₀ → CrossAsked n x codes (take k counts) lines₀ p
  cross_asked q h = record {
    ready = record { listed = q.listed; division = (divides_of c n t m.broken).whole; few = (divides_of c n t m.broken).few };
    lines_room = h;
    placed_room = le_trans {m = length placed₀} q.placed_room (le_of_eq (sym m.main.long));
  }

  pub laid_of : {inner : Float} {lines₀ lines placed : List Float} → items_in t 0 n ≡ items_of (main_lists n x codes) → CrossLaid c n x codes (take k counts) inner lines₀ p lines placed
      → Laid c n x codes (pass_lent placed₀ lines₀ counts₀ rounds₀ free₀ work₀ sums₀) k sum inner (pass_lent placed lines counts rounds free work sums)
  laid_of {inner} {lines₀} {lines} {placed} e q =
      let f = m.main.run in
      let same : (j : ℕ) → j < 4 → column n j p ≡ column n j placed = λ j h. sym (q.across.others j h) in
      record {
        broken = subst (λ (l : List Item). wrapping.Wrapped (break_mode c) (limit_space c) (cleaned c.gap_main) c.minimum_lines (outer_sizes l) (balance.break_lent counts₀ work₀ sums₀) k (balance.break_lent counts work sums)) e m.broken;
        flexed = subst (λ (y : List Float). FlexedLines (cleaned c.inner_main) (cleaned c.gap_main) (item_at (main_lists n x codes)) n (take k counts) sum (zeros n) free₀ rounds₀ y free rounds) (same 0 (omega arith)) f.flexed;
        spaced =
            subst (λ (y : List Float). Spaced y (column n 1 placed) (column n 2 placed) (column n 3 placed)) (same 0 (omega arith))
            (subst (λ (y : List Float). Spaced (column n 0 p) y (column n 2 placed) (column n 3 placed)) (same 1 (omega arith))
            (subst (λ (y : List Float). Spaced (column n 0 p) (column n 1 p) y (column n 3 placed)) (same 2 (omega arith))
            (subst (λ (y : List Float). Spaced (column n 0 p) (column n 1 p) (column n 2 p) y) (same 3 (omega arith)) f.spaced)));
        aligned = q.along.aligned;
        across = q.across.across;
        placed_past = record { long = q.across.past.long ∙ m.main.long; rest = q.across.past.rest ∙ m.main.past 8 (omega arith) };
        lines_past = q.along.past;
      }
    where
      Spaced : List Float → List Float → List Float → List Float → Type 0
      Spaced g o s d = MainLines c.inner_main c.gap_main (content_of c.justify_content) (reversed c) (take k counts) (main_items n x codes g) (zeros n) (zeros n) (zeros n) o s d
