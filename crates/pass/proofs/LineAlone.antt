-- In "accepted runs a line's targets, rounds and main offsets depend only on the container, the line ranges and its own items": two runs in one container
-- that agree on a line's items, and on nothing else, say the same of it. By the same of flexing and of the main axis. Assumes nothing.
use mathlib.Core.Path.{◌≡◌, sym, ap, ◌∙◌}
use mathlib.Core.List.{List}
use Prim.Native.Nat.{ℕ, ◌+◌, ◌<◌}
use native.Mathlib.Omega.{arith}
use lib.ListN.{length, get_or, take, drop}
use lib.Seq.{get_or-take, get_or-drop}
use lib.Ieee.{Float, nan}
use Rattle.lists.specs.Cells.{each}
use Rattle.flex.specs.Items.{item_at}
use Rattle.lists.proofs.Each.{each_ext}
use Rattle.lists.specs.ByLine.{line_start, part}
use Rattle.flex_lines.specs.Lines.{line_items}
use Rattle.flex_lines.proofs.Alone.{flexed_alone}
use Rattle.pass_walk.proofs.Spacing.{same_line, main_independent}
use Rattle.pass_container.specs.declared.Container.{Container}
use Rattle.pass_container.specs.Columns.{column, main_lists}
use Rattle.pass.specs.Laid.{PassLent, Laid}
use Rattle.pass.specs.Alone.{SameItems, SameLine}

-- ---- a line's own items

in_part : {A : Type 0} (counts : List ℕ) (j : ℕ) (l : List A) (i : ℕ) (d : A) → i < get_or counts j 0 → get_or (part counts j l) i d ≡ get_or l (line_start counts j + i) d
in_part counts j l i d h = get_or-take (get_or counts j 0) (drop (line_start counts j) l) i d h ∙ get_or-drop (line_start counts j) l i d

module _ {counts counts' : List ℕ} {j j' n n' : ℕ} {x x' : List Float} {codes codes' : List ℕ} (s : SameItems counts counts' j j' n n' x x' codes codes') where
  item_same : (i : ℕ) → i < get_or counts j 0 → item_at (main_lists n x codes) (line_start counts j + i) ≡ item_at (main_lists n' x' codes') (line_start counts' j' + i)
  item_same i h =
      let h' : i < get_or counts' j' 0 = omega (arith, s.as_many) in
      let g : (k : ℕ) → k < 8 → get_or (column n k x) (line_start counts j + i) nan ≡ get_or (column n' k x') (line_start counts' j' + i) nan
      = λ k l. sym (in_part counts j (column n k x) i nan h) ∙ ap (λ (y : List Float). get_or y i nan) (s.numbers k l) ∙ in_part counts' j' (column n' k x') i nan h' in
      let m : (k : ℕ) → k < 3 → get_or (column n k codes) (line_start counts j + i) 0 ≡ get_or (column n' k codes') (line_start counts' j' + i) 0
      = λ k l. sym (in_part counts j (column n k codes) i 0 h) ∙ ap (λ (y : List ℕ). get_or y i 0) (s.marks k l) ∙ in_part counts' j' (column n' k codes') i 0 h' in
      cc (g 0 (omega arith), g 1 (omega arith), g 2 (omega arith), g 3 (omega arith), g 4 (omega arith), g 5 (omega arith), g 6 (omega arith), g 7 (omega arith), m 0 (omega arith), m 1 (omega arith), m 2 (omega arith))

  items_same : line_items (item_at (main_lists n x codes)) counts j ≡ line_items (item_at (main_lists n' x' codes')) counts' j'
  items_same =
      each_ext (get_or counts j 0) (λ i. item_at (main_lists n x codes) (line_start counts j + i)) (λ i. item_at (main_lists n' x' codes') (line_start counts' j' + i)) item_same
      ∙ ap (λ (k : ℕ). each k (λ i. item_at (main_lists n' x' codes') (line_start counts' j' + i))) s.as_many

-- ---- a line by itself

pub pass_independent : (c : Container) {n n' : ℕ} {x x' : List Float} {codes codes' : List ℕ} {b b' a a' : PassLent} {k k' sum sum' : ℕ} {inner inner' : Float}
    → Laid c n x codes b k sum inner a → Laid c n' x' codes' b' k' sum' inner' a'
    → (j j' : ℕ) → j < length (take k a.counts) → j' < length (take k' a'.counts) → SameItems (take k a.counts) (take k' a'.counts) j j' n n' x x' codes codes'
    → SameLine (take k a.counts) (take k' a'.counts) j j' n n' a a'
pass_independent c p q j j' h h' s =
    let f = flexed_alone p.flexed q.flexed j j' h h' (items_same s) in
    let m = main_independent p.spaced q.spaced j j' h h' (same_line f.targets_same (s.numbers 6 (omega arith)) (s.numbers 7 (omega arith)) (s.marks 1 (omega arith)) (s.marks 2 (omega arith))) in
    record { flexed = f; offsets = m.offsets_same; starts = m.starts_same; ends = m.ends_same }
