-- The stages' contracts put together: what flexing is asked, what the main axis is asked, and both in the lists of the pass. Assumes nothing.
use mathlib.Core.Path.{◌≡◌, sym, ap, ◌∙◌, subst}
use mathlib.Core.Logic.{inr}
use mathlib.Core.Bool.{Bool}
use mathlib.Core.List.{List, ◌++◌}
use Prim.Native.Nat.{ℕ, ◌+◌, ◌*◌, ◌≤◌, ◌<◌}
use native.Mathlib.Nat.{le_trans, le_of_eq, zero-add}
use native.Mathlib.Omega.{arith}
use lib.ListN.{length, drop, take, length-append, length-replicate, drop_of_length-le}
use lib.Seq.{take_at, length-take-le, get_or-take}
use lib.IntN.{ℤ}
use lib.Ieee.{Float}
use Rattle.grid.specs.Grid.{cleaned}
use Rattle.flex.specs.declared.Item.{Item}
use Rattle.flex.specs.Accepted.{Measured}
use Rattle.flex.specs.Flex.{outer_sum}
use Rattle.flex.specs.Items.{item_at}
use Rattle.lists.proofs.Each.{each_ext}
use Rattle.flex_table.specs.Table.{no_item, item_in}
use Rattle.flex_lines.specs.Lines.{FlexedLines}
use Rattle.flex_lines.specs.Parts.{Lined}
use Rattle.flex_lines.proofs.Going.{lines_as}
use Rattle.keywords.specs.declared.ContentAlignment.{ContentAlignment}
use Rattle.grid.specs.Floats.{nought}
use Rattle.keywords.specs.Alignment.{content_of}
use Rattle.place_main.specs.MainAxis.{LineLists}
use Rattle.lists.specs.Cells.{Past}
use Rattle.pass_walk.specs.Main.{MainLines}
use Rattle.pass_walk.specs.MainParts.{MainReady}
use Rattle.pass_container.specs.declared.Container.{Container}
use Rattle.pass_container.specs.Columns.{column, main_lists, zeros, main_items}
use Rattle.pass_container.specs.Container.{reversed}
use Rattle.pass_container.specs.Stages.{Inside, FourStored}
use Rattle.pass_checks.proofs.Taken.{number_length, code_length}
use Rattle.pass_main.specs.Stage.{MainStageReady, Run, MainStage}

-- ---- lists of n cells: nothing is past them

none_past : (n : ℕ) (l : List Float) → length l ≡ n → drop n l ≡ drop n (zeros n)
none_past n l h = drop_of_length-le l (le_of_eq h) ∙ sym (drop_of_length-le (zeros n) (le_of_eq (length-replicate n nought)))

past_zeros : (n : ℕ) (old new : List Float) → length old ≡ n → Past n old new → Past n (zeros n) new
past_zeros n old new h p = record { long = p.long ∙ h ∙ sym (length-replicate n nought); rest = none_past n new (p.long ∙ h) }

module _ {c : Container} {n : ℕ} {t : List Item} {x : List Float} {codes counts : List ℕ} {free : List ℤ} {rounds : List ℕ} (ready : MainStageReady c n t x codes counts free rounds) where
  -- the part of the table that has the items
  many : length (take n t) ≡ n
  many = length-take-le n t ready.lined.divided.wide.1

  item_same : (k : ℕ) → k < n → item_in (take n t) k ≡ item_in t k
  item_same k h = get_or-take n t k no_item h

  -- what flexing is asked
  pub flex_asked : (i g : Float) (targets : List Float) → i ≡ cleaned c.inner_main → g ≡ cleaned c.gap_main → length targets ≡ n → Lined i g (take n t) (length (take n t)) counts targets free rounds
  flex_asked i g targets p q h =
      let d = ready.lined.divided in
      let same = each_ext n (λ k. item_in (take n t) (0 + k)) (λ k. item_in t (0 + k)) (λ k l. item_same (0 + k) (subst (λ (m : ℕ). m < n) (sym (zero-add k)) l)) in
      subst (λ (m : ℕ). Lined i g (take n t) m counts targets free rounds) (sym many) (subst (λ (y : Float). Lined y g (take n t) n counts targets free rounds) (sym p) (subst (λ (y : Float). Lined (cleaned c.inner_main) y (take n t) n counts targets free rounds) (sym q) (record {
        divided = record {
          wide = (d.wide.0, le_of_eq (sym many));
          inner_is = d.inner_is;
          gap_is = d.gap_is;
          tabled = λ k l. subst Measured (sym (item_same k l)) (d.tabled k l);
          whole = d.whole;
          positive = d.positive;
          room = le_of_eq (sym h);
          free_room = d.free_room;
          rounds_room = d.rounds_room;
        };
        within = subst (λ (l : List Item). outer_sum (cleaned c.gap_main) l ≤ 16777216) (sym same) ready.lined.within;
      })))

  -- and what it gives
  pub flexed_of : (i g : Float) (sum : ℕ) (old targets : List Float) (free' : List ℤ) (rounds' : List ℕ) → i ≡ cleaned c.inner_main → g ≡ cleaned c.gap_main → length old ≡ n → FlexedLines i g (item_in (take n t)) (length (take n t)) counts sum old free rounds targets free' rounds' → FlexedLines (cleaned c.inner_main) (cleaned c.gap_main) (item_at (main_lists n x codes)) n counts sum (zeros n) free rounds targets free' rounds'
  flexed_of i g sum old targets free' rounds' p q h f =
      let y = subst (λ (m : ℕ). FlexedLines i g (item_in (take n t)) m counts sum old free rounds targets free' rounds') many f in
      let z : FlexedLines i g (item_in (take n t)) n counts sum (zeros n) free rounds targets free' rounds' = record { line = y.line; sum_is = y.sum_is; long = y.long ∙ h ∙ sym (length-replicate n nought); past = none_past n targets (y.long ∙ h); free_past = y.free_past; rounds_past = y.rounds_past } in
      let w = lines_as i g (item_in (take n t)) (item_at (main_lists n x codes)) n counts sum (zeros n) free rounds targets free' rounds' ready.lined.divided.whole (λ k l. item_same k l ∙ ready.held k (le_trans {m = n} l (le_of_eq (sym (number_length ready.listed 0 (omega arith)))))) z in
      subst (λ (y : Float). FlexedLines y (cleaned c.gap_main) (item_at (main_lists n x codes)) n counts sum (zeros n) free rounds targets free' rounds') p (subst (λ (y : Float). FlexedLines i y (item_at (main_lists n x codes)) n counts sum (zeros n) free rounds targets free' rounds') q w)

  -- what the main axis is asked
  pub main_asked : (targets offsets starts ends : List Float) {l : LineLists} → l ≡ main_items n x codes targets → length targets ≡ n → length offsets ≡ n → length starts ≡ n → length ends ≡ n → MainReady counts l offsets starts ends
  main_asked targets offsets starts ends e h ho hs he = subst (λ (y : LineLists). MainReady counts y offsets starts ends) (sym e) (record {
    even = record {
      few = le_trans {m = n} (le_of_eq h) ready.listed.few;
      start = number_length ready.listed 6 (omega arith) ∙ sym h;
      end = number_length ready.listed 7 (omega arith) ∙ sym h;
      auto_start = code_length ready.listed 1 (omega arith) ∙ sym h;
      auto_end = code_length ready.listed 2 (omega arith) ∙ sym h;
    };
    division = ready.lined.divided.whole ∙ sym h;
    offsets_room = le_of_eq (h ∙ sym ho);
    starts_room = le_of_eq (h ∙ sym hs);
    ends_room = le_of_eq (h ∙ sym he);
  })

-- what the main axis gives
pub spaced_of : (c : Container) (n : ℕ) (x : List Float) (codes counts : List ℕ) (targets o₀ s₀ e₀ o s e : List Float) (j : ContentAlignment) (r : Bool) {l : LineLists} → l ≡ main_items n x codes targets → length targets ≡ n → j ≡ content_of c.justify_content → r ≡ reversed c → length o₀ ≡ n → length s₀ ≡ n → length e₀ ≡ n
    → MainLines c.inner_main c.gap_main j r counts l o₀ s₀ e₀ o s e → MainLines c.inner_main c.gap_main (content_of c.justify_content) (reversed c) counts (main_items n x codes targets) (zeros n) (zeros n) (zeros n) o s e
spaced_of c n x codes counts targets o₀ s₀ e₀ o s e j r el h ej er ho hs he m =
    let w = subst (λ (y : LineLists). MainLines c.inner_main c.gap_main j r counts y o₀ s₀ e₀ o s e) el m in
    let z : MainLines c.inner_main c.gap_main j r counts (main_items n x codes targets) (zeros n) (zeros n) (zeros n) o s e = record { spaced = w.spaced; offsets_past = past o₀ o ho w.offsets_past; starts_past = past s₀ s hs w.starts_past; ends_past = past e₀ e he w.ends_past } in
    subst (λ (y : Bool). MainLines c.inner_main c.gap_main (content_of c.justify_content) y counts (main_items n x codes targets) (zeros n) (zeros n) (zeros n) o s e) er
    (subst (λ (y : ContentAlignment). MainLines c.inner_main c.gap_main y r counts (main_items n x codes targets) (zeros n) (zeros n) (zeros n) o s e) ej z)
  where
    past : (old new : List Float) → length old ≡ n → Past (length targets) old new → Past (length targets) (zeros n) new
    past old new g w = subst (λ (k : ℕ). Past k (zeros n) new) (sym h) (past_zeros n old new g (subst (λ (k : ℕ). Past k old new) h w))

-- the lists that a run leaves have n cells
module _ {c : Container} {n : ℕ} {x : List Float} {codes counts : List ℕ} {f₀ : List ℤ} {r₀ : List ℕ} {sum : ℕ} {t o s e : List Float} {f : List ℤ} {r : List ℕ} (run : Run c n x codes counts f₀ r₀ sum t o s e f r) where
  pub targets_long : length t ≡ n
  targets_long = run.flexed.long ∙ length-replicate n nought

  pub offsets_long : length o ≡ n
  offsets_long = run.spaced.offsets_past.long ∙ length-replicate n nought

  pub starts_long : length s ≡ n
  starts_long = run.spaced.starts_past.long ∙ length-replicate n nought

  pub ends_long : length e ≡ n
  ends_long = run.spaced.ends_past.long ∙ length-replicate n nought

  -- stored as lists 0 to 3
  pub stage_of : (a b d g placed₀ placed : List Float) → a ≡ t → b ≡ o → d ≡ s → g ≡ e → FourStored n 0 a b d g placed₀ placed → MainStage c n x codes counts placed₀ f₀ r₀ sum placed f r
  stage_of a b d g placed₀ placed p q u v w = record {
    run =
        subst (λ (y : List Float). Run c n x codes counts f₀ r₀ sum y (column n 1 placed) (column n 2 placed) (column n 3 placed) f r) (sym (w.first ∙ p))
        (subst (λ (y : List Float). Run c n x codes counts f₀ r₀ sum t y (column n 2 placed) (column n 3 placed) f r) (sym (w.second ∙ q))
        (subst (λ (y : List Float). Run c n x codes counts f₀ r₀ sum t o y (column n 3 placed) f r) (sym (w.third ∙ u))
        (subst (λ (y : List Float). Run c n x codes counts f₀ r₀ sum t o s y f r) (sym (w.fourth ∙ v)) run)));
    others = λ j h. w.others j (inr h);
    past = λ m h. w.past m h;
    long = w.long;
  }

-- ---- the first n cells of a list whose first n have been written

pub first_cells : (n : ℕ) (p q : List Float) → length p ≡ n → take n (p ++ q) ≡ p
first_cells n p q h = take_at p q n h

pub first_long : (n : ℕ) (p q : List Float) → length p ≡ n → length (take n (p ++ q)) ≡ n
first_long n p q h = ap length (take_at p q n h) ∙ h

pub first_inside : (n : ℕ) (p q : List Float) → length p ≡ n → n ≤ length (p ++ q)
first_inside n p q h = omega (arith, length-append p q)

pub four_inside : (n : ℕ) (placed : List Float) → n ≤ 1024 → 4 * n ≤ length placed → Inside n 3 placed
four_inside n placed h k = record { few = h; one_of = omega arith; inside = omega arith }
