-- The loops of a round and the loop of rounds: what they keep, a turn and their ends, on plain values. Assumes nothing.
use mathlib.Core.Path.{◌≡◌, refl, sym, ap, ◌∙◌, subst}
use mathlib.Core.Bool.{Bool}
use mathlib.Core.List.{List}
use Prim.Native.Nat.{ℕ, ◌+◌, ◌≤◌, ◌<◌}
use native.Mathlib.Nat.{le_trans, le_of_eq}
use native.Mathlib.Numerals.{add-one}
use borrow.Author.Count.{below_none, below_more}
use lib.ListN.{length}
use lib.Ieee.{Float}
use Rattle.flex.specs.declared.Item.{Item}
use Rattle.flex.specs.declared.Line.{Line}
use Rattle.flex.specs.Flex.{Cell, unfrozen, round, after}
use Rattle.flex_rounds.specs.Cells.{cell_at, cells_of, Untouched, Rewritten, Ran}
use Rattle.lists.specs.Cells.{each}
use Rattle.lists.proofs.Each.{length-each}
use Rattle.flex_table.specs.Table.{item_in}
use Rattle.flex_table.proofs.Each.{Turned, turned_all}
use Rattle.flex.proofs.Falls.{falls, rounds_left}

-- a loop that rewrites marks and targets is over
pub rewritten_all : {items : List Item} {want : ℕ → Cell} {cells : List Cell} {frozen₀ : List Bool} {targets₀ : List Float} {frozen : List Bool} {targets : List Float} {i : ℕ} → cells ≡ each (length items) want → Turned (length items) want (item_in items) frozen₀ targets₀ frozen targets i → length items ≤ i
    → Rewritten items cells targets₀ frozen targets
rewritten_all e t h = record { cells_are = turned_all t h ∙ sym e; kept = λ k l. t.rest k (le_trans t.inside l) }

pub record Running (items : List Item) (ln : Line) (frozen₀ : List Bool) (targets₀ : List Float) (frozen : List Bool) (targets : List Float) (rounds : ℕ) : Type 0 where
  pub marks : length frozen ≡ length frozen₀
  pub long : length targets ≡ length targets₀
  pub cells_are : cells_of items frozen targets ≡ after ln rounds (cells_of items frozen₀ targets₀)
  pub needed : (k : ℕ) → k < rounds → 0 < unfrozen (after ln k (cells_of items frozen₀ targets₀))
  pub kept : Untouched (length items) targets₀ targets

pub running_none : {items : List Item} {ln : Line} {frozen : List Bool} {targets : List Float} → Running items ln frozen targets frozen targets 0
unfolding after
running_none {items} {ln} {frozen} {targets} = record { marks = refl; long = refl; cells_are = refl; needed = below_none (λ k. 0 < unfrozen (after ln k (cells_of items frozen targets))); kept = λ k h. refl }

module _ {items : List Item} {ln : Line} {frozen₀ : List Bool} {targets₀ : List Float} {frozen : List Bool} {targets : List Float} {rounds : ℕ} (r : Running items ln frozen₀ targets₀ frozen targets rounds) where
  pub running_next : {frozen' : List Bool} {targets' : List Float} → 0 < unfrozen (cells_of items frozen targets) → length frozen' ≡ length frozen → length targets' ≡ length targets
      → Rewritten items (round ln (cells_of items frozen targets)) targets frozen' targets' → Running items ln frozen₀ targets₀ frozen' targets' (rounds + 1)
  unfolding after
  running_next h m e w = record {
    marks = m ∙ r.marks;
    long = e ∙ r.long;
    cells_are = w.cells_are ∙ ap (round ln) r.cells_are ∙ ap (λ k. after ln k (cells_of items frozen₀ targets₀)) (sym (add-one rounds));
    needed = below_more (λ k. 0 < unfrozen (after ln k (cells_of items frozen₀ targets₀))) rounds r.needed (subst (λ l. 0 < unfrozen l) r.cells_are h);
    kept = λ k l. w.kept k l ∙ r.kept k l;
  }

  -- with the items left, the rounds are at most the items
  pub running_few : rounds + unfrozen (cells_of items frozen targets) ≤ length items
  running_few =
      le_trans {m = rounds + unfrozen (after ln rounds (cells_of items frozen₀ targets₀))} (le_of_eq (ap (λ l. rounds + unfrozen l) r.cells_are))
      (subst (λ m. rounds + unfrozen (after ln rounds (cells_of items frozen₀ targets₀)) ≤ m) (length-each (length items) (cell_at items frozen₀ targets₀)) (rounds_left ln (cells_of items frozen₀ targets₀) rounds r.needed))

  -- a round leaves fewer
  pub running_less : {frozen' : List Bool} {targets' : List Float} → 0 < unfrozen (cells_of items frozen targets) → Rewritten items (round ln (cells_of items frozen targets)) targets frozen' targets'
      → unfrozen (cells_of items frozen' targets') < unfrozen (cells_of items frozen targets)
  running_less h w = subst (λ l. unfrozen l < unfrozen (cells_of items frozen targets)) (sym w.cells_are) (falls ln (cells_of items frozen targets) h)

  -- with no item left, all rounds are run
  pub running_done : 0 ≡ unfrozen (cells_of items frozen targets) → Ran items ln rounds frozen₀ targets₀ frozen targets
  running_done h = record {
    number = record { needed = r.needed; over = ap unfrozen (sym r.cells_are) ∙ sym h };
    written = record { cells_are = r.cells_are; kept = r.kept };
  }
