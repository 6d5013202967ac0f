-- From the parts of a call to what it answers. Assumes nothing.
use mathlib.Core.Path.{◌≡◌, refl, sym, ap, ap₂, ◌∙◌, subst}
use mathlib.Core.Bool.{Bool}
use mathlib.Core.List.{List, ◌++◌, map}
use Prim.Native.Nat.{ℕ, ◌+◌, ◌-◌, ◌≤◌}
use native.Mathlib.Nat.{le_trans, le_of_eq}
use native.Mathlib.Omega.{arith}
use lib.ListN.{length, get_or, take, drop, length-drop, length-map}
use lib.Seq.{get_or-drop, ext_get_or}
use lib.IntN.{ℤ}
use lib.Ieee.{Float, nan}
use Rattle.flex.specs.declared.Item.{Item}
use Rattle.flex.specs.declared.Line.{Line}
use Rattle.flex.specs.declared.Sums.{Sums}
use Rattle.flex.specs.Flex.{start_cell, remaining, after, Runs, free_before, grows, begun, line_of, targets, Flexed}
use Rattle.flex.specs.Steps.{Summed, space_left}
use Rattle.grid.specs.Grid.{cleaned}
use Rattle.flex_rounds.specs.Cells.{cell_at, cells_of, Untouched, Rewritten, Ran}
use Rattle.lists.proofs.Each.{length-each, map_each}
use Rattle.flex_table.proofs.Items.{take-each}
use Rattle.flex.proofs.Round.{remaining_is}
use Rattle.flex.proofs.Falls.{rounds_few}

-- ---- a list by its first n elements and the rest

drop-kept : (n : ℕ) (old new : List Float) → length new ≡ length old → Untouched n old new → drop n new ≡ drop n old
drop-kept n old new e h =
    ext_get_or nan (drop n new) (drop n old) (length-drop n new ∙ ap (λ k. k - n) e ∙ sym (length-drop n old))
    (λ i m. get_or-drop n new i nan ∙ h (n + i) (omega arith) ∙ sym (get_or-drop n old i nan))

-- ---- the whole call

abbrev pub line_from : Float → Float → Float → Bool → Line
line_from inner gap initial growing = record { inner = inner; gap = gap; initial = initial; growing = growing }

module _ {items : List Item} {inner gap : Float} {free : ℤ} {growing : Bool} {targets₀ : List Float} {frozen₁ : List Bool} {targets₁ : List Float} {s : Sums} {initial : Float} {rounds : ℕ} {frozen₂ : List Bool} {targets₂ targets₃ : List Float}
    (ef : free ≡ free_before inner gap items) (eg : growing ≡ grows inner gap items) (w : Rewritten items (map (start_cell growing) items) targets₀ frozen₁ targets₁)
    (u : Summed growing (cells_of items frozen₁ targets₁) s) (q : initial ≡ space_left inner gap (length items) s.outer) (r : Ran items (line_from inner gap initial growing) rounds frozen₁ targets₁ frozen₂ targets₂)
    (tidied : targets₃ ≡ map cleaned (take (length items) targets₂) ++ drop (length items) targets₂) (room : length items ≤ length targets₀) (long : length targets₂ ≡ length targets₀) where
  started : cells_of items frozen₁ targets₁ ≡ begun inner gap items
  started = w.cells_are ∙ ap (λ g. map (start_cell g) items) eg

  flows : line_from inner gap initial growing ≡ line_of inner gap items
  flows = ap₂ (λ i g. line_from inner gap i g) (q ∙ remaining_is inner gap (cells_of items frozen₁ targets₁) (length items) s.outer (sym (length-each (length items) (cell_at items frozen₁ targets₁))) u.outer ∙ ap (λ l. remaining inner gap l) started) eg

  runs : Runs (line_of inner gap items) (begun inner gap items) rounds
  runs = subst (λ ln. Runs ln (begun inner gap items) rounds) flows (subst (λ l. Runs (line_from inner gap initial growing) l rounds) started r.number)

  ended : cells_of items frozen₂ targets₂ ≡ after (line_of inner gap items) rounds (begun inner gap items)
  ended = r.written.cells_are ∙ ap₂ (λ ln l. after ln rounds l) flows started

  cleaned_targets : map cleaned (take (length items) targets₂) ≡ targets inner gap items rounds
  cleaned_targets =
      ap (map cleaned) (take-each nan (length items) targets₂ (λ k. get_or targets₂ k nan) (subst (λ k. length items ≤ k) (sym long) room) (λ k l. refl))
      ∙ map_each cleaned (length items) (λ k. get_or targets₂ k nan)
      ∙ sym (map_each (λ c. cleaned c.target) (length items) (cell_at items frozen₂ targets₂))
      ∙ ap (λ l. map (λ c. cleaned c.target) l) ended

  pub finish : Flexed inner gap items free rounds targets₀ targets₃
  finish = record {
    space = ef;
    number = runs;
    few = le_trans {m = length (begun inner gap items)} (rounds_few (line_of inner gap items) (begun inner gap items) rounds runs) (le_of_eq (length-map items (start_cell (grows inner gap items))));
    cells = tidied ∙ ap₂ (λ a b. a ++ b) cleaned_targets (drop-kept (length items) targets₀ targets₂ long (λ k h. r.written.kept k h ∙ w.kept k h));
  }
