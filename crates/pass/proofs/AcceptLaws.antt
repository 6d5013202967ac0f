-- What the checks show of a pass: what every stage of it asks. By the laws of accepted numbers, of flexing's table and of breaking. Assumes nothing.
use mathlib.Core.Path.{◌≡◌, refl, sym, ap, ◌∙◌, subst}
use mathlib.Core.Bool.{Bool}
use mathlib.Core.List.{List}
use Prim.Native.Nat.{ℕ, zero, suc, ◌+◌, ◌*◌, ◌≤◌}
use native.Mathlib.Nat.{le_trans, le_of_eq, zero-add}
use native.Mathlib.Omega.{arith}
use lib.Dec.{eqb}
use lib.ListN.{length, take}
use lib.Ieee.{Float}
use Rattle.grid.specs.Grid.{sixty_fourths, cleaned}
use Rattle.grid.specs.Values.{Length}
use Rattle.grid.proofs.Meaning.{at_of_grid, grid_of_at}
use Rattle.grid.proofs.Cleaned.{cleaned_at}
use Rattle.checks.specs.Domain.{float, shape, summed, then, Verdict}
use Rattle.checks.specs.Optional.{optional}
use Rattle.checks.specs.Marks.{least_mark, judged, AllFine, SoundInput}
use Rattle.checks.specs.declared.Refusal.{Refusal}
use Rattle.std.specs.declared.result.Result.TheVariants.{Ok, Err}
use Rattle.checks.specs.declared.Kind.TheVariants as kind
use Rattle.checks.proofs.Checks.{judged-checked, accepted, then_passed, shape_passed, fine-append, fine-length, fine_size}
use Rattle.break_greedy.specs.Steps.{LengthLimit}
use Rattle.flex.specs.declared.Item.{Item}
use Rattle.flex.specs.Accepted.{Measured, Every}
use Rattle.flex.specs.Flex.{outer_sum}
use Rattle.flex_table.specs.Table.{Wide, items_in, Tabled, Held}
use Rattle.flex_table.proofs.Items.{tabled_of, first_items, every_part}
use Rattle.flex_checks.specs.Input.{input_of}
use Rattle.flex_checks.proofs.Accept.{inner_length, gap_length, measured_of, refused_then, passed_then}
use Rattle.balance.specs.Calls as balance
use Rattle.pass_break.specs.Parts.{WrapRoom}
use Rattle.pass_break.proofs.Given.{table_breakable}
use Rattle.keywords.specs.declared.Mode.{Mode}
use Rattle.keywords.specs.declared.Mode.TheVariants.{Single, Greedy, Balanced}
use Rattle.pass_container.specs.declared.Container.{Container}
use Rattle.pass_container.specs.Columns.{column, main_lists}
use Rattle.keywords.specs.Space.{space_of}
use Rattle.pass_container.specs.Container.{limit_space, break_mode}
use Rattle.pass_container.specs.Stages.{ItemLists}
use Rattle.pass_checks.specs.Checks.{pass_room, pass_container_numbers, pass_input, pass_sum, pass_verdict}
use Rattle.pass_checks.proofs.Taken.{number_length}
use Rattle.pass_checks.proofs.Rooms.{Roomy, roomy_of}
use Rattle.pass.specs.Laid.{PassLent}
use Rattle.pass.specs.Stages.{PassAccepted}
use Rattle.pass.specs.Pass.{PassAnswer, PassAnswered}
use Rattle.pass.specs.Checked.{PassChecked}

-- ---- the container's numbers

limit-length : (k : ℕ) (x : Float) → AllFine (optional (eqb k 0) (float kind.Length x)) → LengthLimit (space_of k x)
limit-length zero x f = fine-length f.0
limit-length (suc zero) x f = tt
limit-length (suc (suc k)) x f = tt

-- ---- room for the lines

room_of : (mode : Mode) (n : ℕ) (b : balance.BreakLent) → n ≤ length b.counts → (mode ≡ Balanced → (n * n + 3 * n ≤ length b.work) × (3 * n ≤ length b.sums)) → WrapRoom mode n b
room_of Single n b h work = h
room_of Greedy n b h work = h
room_of Balanced n b h work = (h, (work refl).0, (work refl).1)

-- "-0.0 reads as 0"
clean_size : (x : Float) → Length x → sixty_fourths (cleaned x) ≡ sixty_fourths x
clean_size x l = (grid_of_at (cleaned x) (sixty_fourths x) (cleaned_at 64 (at_of_grid x l.grid))).1

-- ---- the verdict, from checks 1 to 5 and check 6

-- the room of the lists that are lent
abbrev pub lent_room : Container → ℕ → List Float → List ℕ → PassLent → Bool
lent_room c n x codes b = pass_room n (break_mode c) (length x) (length codes) (length b.placed) (length b.lines) (length b.counts) (length b.rounds) (length b.free) (length b.work) (length b.sums)

module _ (c : Container) (n : ℕ) (x : List Float) (codes : List ℕ) (room : Bool) where
  -- what checks 1 to 5 say
  abbrev pub first : Verdict
  first = then (shape n room) (judged (least_mark (pass_input c n x codes)))

  pub refused_so : (why : Refusal) → first ≡ Err why → pass_verdict c n x codes room ≡ Err why
  unfolding pass_verdict
  refused_so why h = refused_then (shape n room) (pass_input c n x codes) (summed (pass_sum c n x codes)) why (λ e. (shape_passed n room e).0) h

  pub passed_so : first ≡ Ok tt → pass_verdict c n x codes room ≡ summed (pass_sum c n x codes)
  unfolding pass_verdict
  passed_so h = passed_then (shape n room) (pass_input c n x codes) (summed (pass_sum c n x codes)) (λ e. (shape_passed n room e).0) h

  pub sound_so : first ≡ Ok tt → (shape n room ≡ Ok tt) × SoundInput (pass_input c n x codes)
  sound_so h =
      let p = then_passed (shape n room) (judged (least_mark (pass_input c n x codes))) h in
      let few = (shape_passed n room p.0).0 in
      (p.0, (accepted (pass_input c n x codes) (Ok tt) (sym (judged-checked (pass_input c n x codes) few (Ok tt)) ∙ ap (λ (v : Verdict). then v (Ok tt)) p.1)).0)

-- ---- the table of the frame

pub wide_of : (t : List Item) (n : ℕ) → length t ≡ 1024 → n ≤ 1024 → Wide t n
wide_of t n h few = (few, omega (arith, h))

-- ---- all of it

module _ {c : Container} {n : ℕ} {x : List Float} {codes : List ℕ} {b : PassLent} (k : PassChecked c n x codes b) where
  abbrev given : Roomy n (break_mode c) (length x) (length codes) (length b.placed) (length b.lines) (length b.counts) (length b.rounds) (length b.free) (length b.work) (length b.sums)
  given = roomy_of n (break_mode c) (length x) (length codes) (length b.placed) (length b.lines) (length b.counts) (length b.rounds) (length b.free) (length b.work) (length b.sums) k.room

  pub listed_of : ItemLists n x codes
  listed_of = record { few = given.few; numbers_long = given.numbers_long; codes_long = given.codes_long }

  count_is : length (column n 0 x) ≡ n
  count_is = number_length listed_of 0 (omega arith)

  sound_main : SoundInput (input_of c.inner_main c.gap_main (main_lists n x codes))
  sound_main =
      let i = input_of c.inner_main c.gap_main (main_lists n x codes) in
      record {
        container = (fine-append i.container (pass_container_numbers c) k.sound.container).0;
        items = λ j h. (fine-append (i.item j) _ (k.sound.items j (le_trans {m = length (column n 0 x)} h (le_of_eq count_is)))).0;
      }

  own : AllFine (pass_container_numbers c)
  own = (fine-append (input_of c.inner_main c.gap_main (main_lists n x codes)).container (pass_container_numbers c) k.sound.container).1

  limit-fine : AllFine (optional (eqb c.limit_kind 0) (float kind.Length c.limit))
  limit-fine = (fine-append (optional (eqb c.limit_kind 0) (float kind.Length c.limit)) _ own.1.1.1.1).0

  pub gap_is : Length (cleaned c.gap_main)
  gap_is = gap_length c.inner_main c.gap_main (main_lists n x codes) sound_main

  module _ (t : List Item) (wide : Wide t n) (held : Held (main_lists n x codes) t) where
    pub table_is : Tabled t n
    table_is = subst (Tabled t) count_is (tabled_of (main_lists n x codes) t held (measured_of c.inner_main c.gap_main (main_lists n x codes) sound_main))

    -- the part of it that has the items
    pub first_are : take n t ≡ items_in t 0 n
    first_are = first_items t n wide.1

    pub all_measured : Every Measured (take n t)
    all_measured = subst (Every Measured) (sym first_are) (every_part t 0 n n table_is (le_of_eq (zero-add n)))

    pub accepted_of : outer_sum (cleaned c.gap_main) (items_in t 0 n) ≤ 16777216 → PassAccepted c n t x codes b
    accepted_of w =
        let g = fine_size sound_main.container.1.0 in
        record {
          main = record {
            listed = listed_of;
            held = held;
            tabled = table_is;
            inner_is = inner_length c.inner_main c.gap_main (main_lists n x codes) sound_main;
            gap_is = gap_is;
            breaks = record {
              wide = wide;
              breakable = table_breakable t n (cleaned c.gap_main) table_is w (limit_space c) given.few (limit-length c.limit_kind c.limit limit-fine) gap_is (g.1.0, clean_size c.gap_main g.0 ∙ g.1.1);
              room = room_of (break_mode c) n (balance.break_lent b.counts b.work b.sums) given.counts_room given.work_room_is;
            };
            within = w;
            placed_room = given.placed_room;
            counts_room = given.counts_room;
            rounds_room = given.rounds_room;
            free_room = given.free_room;
          };
          lines_room = given.lines_room;
        }

-- ---- the answer under an equal verdict

pub answered_as : (c : Container) (n : ℕ) (x : List Float) (codes : List ℕ) (b : PassLent) (r : PassAnswer) (a : PassLent) {v w : Verdict} → v ≡ w → PassAnswered v c n x codes b r a → PassAnswered w c n x codes b r a
answered_as c n x codes b r a e h = subst (λ (y : Verdict). PassAnswered y c n x codes b r a) e h
