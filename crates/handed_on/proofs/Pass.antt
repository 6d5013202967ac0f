-- The whole pass: where it accepts, the main sizes that it leaves are numbers that a later step takes. By the same of many lines. Assumes nothing.
use mathlib.Core.Path.{◌≡◌, ◌∙◌, subst}
use mathlib.Core.List.{List}
use Prim.Native.Nat.{ℕ, ◌<◌}
use native.Mathlib.Nat.{le_trans, le_of_eq}
use native.Mathlib.Omega.{arith}
use lib.ListN.{length, get_or, take, length-map}
use lib.Ieee.{Float, nan}
use Rattle.grid.specs.Grid.{cleaned}
use Rattle.checks.specs.Domain.{float, shape, summed, checked}
use Rattle.checks.specs.Marks.{Fine, SoundInput}
use Rattle.flex_checks.specs.Input.{input_of}
use Rattle.checks.specs.declared.Kind.TheVariants as kind
use Rattle.std.specs.declared.result.Result.TheVariants.{Ok}
use Rattle.checks.proofs.Checks.{accepted, then_passed, fine-append}
use Rattle.lists.specs.Cells.{each}
use Rattle.lists.specs.ByLine.{Division}
use Rattle.lists.proofs.Each.{length-each}
use Rattle.flex.specs.Items.{item_at, items_of}
use Rattle.flex_reach.specs.Reach.{IsLine}
use Rattle.flex_reach.proofs.Line.{Singles}
use Rattle.flex_reach.proofs.Line.{line_of_checks}
use Rattle.handed_on.proofs.Lines.{all_reach}
use Rattle.pass_container.specs.declared.Container.{Container}
use Rattle.pass_container.specs.Columns.{column, main_lists}
use Rattle.pass_container.specs.Container.{limit_space, break_mode}
use Rattle.pass_checks.specs.Checks.{pass_container_numbers, pass_room, pass_input, pass_sum, pass_verdict}
use Rattle.pass_break.specs.Outer.{outer_sizes}
use Rattle.pass_break.proofs.Division.{wrapped_divides}
use Rattle.pass.specs.Laid.{PassLent, placed_main_size, Laid}
use Rattle.pass.specs.Checked.{PassChecked}
use Rattle.pass.specs.Pass.{laid_out, lent_verdict, PassCall}
use Rattle.pass_checks.proofs.Taken.{number_length}
use Rattle.pass.proofs.AcceptLaws.{listed_of}

module _ {c : Container} {n : ℕ} {x : List Float} {codes : List ℕ} {b : PassLent} (k : PassChecked c n x codes b) where
  count_is : length (column n 0 x) ≡ n
  count_is = number_length (listed_of k) 0 (omega arith)

  sound_main : SoundInput (input_of c.inner_main c.gap_main (main_lists n x codes))
  sound_main =
      let i = input_of c.inner_main c.gap_main (main_lists n x codes) in
      record {
        container = (fine-append i.container (pass_container_numbers c) k.sound.container).0;
        items = λ j h. (fine-append (i.item j) _ (k.sound.items j (le_trans {m = length (column n 0 x)} h (le_of_eq count_is)))).0;
      }

module _ (c : Container) (n : ℕ) (x : List Float) (codes : List ℕ) (before : PassLent) (grow : Singles (column n 4 x) n) (shrink : Singles (column n 5 x) n) where
  -- what checks 1 to 6 show
  checks_show : lent_verdict c n x codes before ≡ Ok tt → PassChecked c n x codes before × (summed (pass_sum c n x codes) ≡ Ok tt)
  unfolding pass_verdict
  checks_show e =
      let room = pass_room n (break_mode c) (length x) (length codes) (length before.placed) (length before.lines) (length before.counts) (length before.rounds) (length before.free) (length before.work) (length before.sums) in
      let p = then_passed (shape n room) (checked (pass_input c n x codes) (summed (pass_sum c n x codes))) e in
      let q = accepted (pass_input c n x codes) (summed (pass_sum c n x codes)) p.1 in
      (record { room = p.0; sound = q.0 }, q.1)

  -- the items, taken as one line
  whole_is : lent_verdict c n x codes before ≡ Ok tt → IsLine (cleaned c.inner_main) (cleaned c.gap_main) (each n (item_at (main_lists n x codes)))
  whole_is e =
      let k = checks_show e in
      let many = count_is k.0 in
      let s = sound_main k.0 in
      subst (λ (m : ℕ). IsLine (cleaned c.inner_main) (cleaned c.gap_main) (each m (item_at (main_lists n x codes)))) many
      (line_of_checks c.inner_main c.gap_main (main_lists n x codes) (λ i h. grow i (le_trans h (le_of_eq many))) (λ i h. shrink i (le_trans h (le_of_eq many))) s.container.0 s.container.1.0 s.items (le_trans (le_of_eq many) (listed_of k.0).few) k.1)

  module _ (lines sum : ℕ) (inner : Float) (after : PassLent) where
    divided : lent_verdict c n x codes before ≡ Ok tt → Laid c n x codes before lines sum inner after → Division (take lines after.counts) n
    divided e l =
        (wrapped_divides (limit_space c) (cleaned c.gap_main) c.minimum_lines (outer_sizes (items_of (main_lists n x codes))) (break_mode c) l.broken).whole
        ∙ length-map (items_of (main_lists n x codes)) _
        ∙ length-each (length (column n 0 x)) (item_at (main_lists n x codes))
        ∙ count_is (checks_show e).0

    pub pass_reach : PassCall c n x codes before (laid_out lines sum inner) after → (i : ℕ) → i < n → Fine (float kind.Worked (get_or (placed_main_size n after) i nan))
    pass_reach (e, l) = all_reach (cleaned c.inner_main) (cleaned c.gap_main) (item_at (main_lists n x codes)) n (take lines after.counts) (whole_is e) (divided e l) l.flexed
