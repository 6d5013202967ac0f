-- The call over many lines: what its checks show, its verdict, and its items as they are read. By the laws of the checks. Assumes nothing.
use mathlib.Core.Path.{◌≡◌, refl, sym, ap, ◌∙◌, subst}
use mathlib.Core.List.{List}
use Prim.Native.Nat.{ℕ, ◌≤◌, ◌<◌}
use native.Mathlib.Omega.{arith}
use lib.ListN.{length, get_or, take}
use Rattle.std.proofs.lemmas.List.{length-take, get_or-take}
use lib.IntN.{ℤ}
use lib.Ieee.{Float}
use Rattle.grid.specs.Grid.{cleaned}
use Rattle.grid.specs.Values.{Length}
use Rattle.checks.specs.Domain.{Verdict, Answer, summed, then}
use Rattle.checks.specs.Marks.{least_mark, judged, SoundInput}
use Rattle.checks.specs.declared.Refusal.{Refusal}
use Rattle.std.specs.declared.result.Result.TheVariants.{Ok, Err}
use Rattle.checks.proofs.Checks.{judged-checked, accepted, then_passed}
use Rattle.flex.specs.declared.Item.{Item}
use Rattle.flex.specs.Flex.{outer_sum}
use Rattle.flex.specs.Items.{Lists, count, item_at, items_of}
use Rattle.flex_table.specs.Table.{no_item, item_in, items_in, Held}
use Rattle.flex_table.proofs.Items.{tabled_of, items_are, all_items}
use Rattle.lists.specs.ByLine.{line_start}
use Rattle.flex_lines.specs.Lines.{FlexedLines}
use Rattle.flex_lines.specs.Parts.{LinesDivided}
use Rattle.flex_lines.proofs.Going.{lines_as}
use Rattle.flex_checks.specs.Counts.{lines_shape, lines_input}
use Rattle.flex_checks.specs.Input.{input_of}
use Rattle.flex.specs.Accepted.{Even}
use Rattle.flex_checks.proofs.Accept.{refused_then, passed_then, inner_length, gap_length, measured_of}
use Rattle.flex_checks.proofs.Division.{division-fine, shape_of}
use Rattle.flex_lines_call.specs.Lines.{room_of, lines_verdict, AnsweredLines, FlexedByLine}
use Rattle.flex_lines_call.specs.Parts.{Roomy, SummedLines}

-- ---- the verdict

-- what checks 1 to 5 show
pub record Shown (inner gap : Float) (counts : List ℕ) (ls : Lists) (targets : List Float) (free : List ℤ) (rounds : List ℕ) : Type 0 where
  pub even : Even ls
  pub sound : SoundInput (input_of inner gap ls)
  pub whole : line_start counts (length counts) ≡ count ls
  pub positive : (j : ℕ) → j < length counts → 0 < get_or counts j 0
  pub roomy : Roomy (count ls) targets free rounds

module _ (inner gap : Float) (counts : List ℕ) (ls : Lists) where
  abbrev marks : Verdict
  marks = judged (least_mark (lines_input inner gap counts ls))

  -- where checks 1 to 5 pass
  pub shown : (targets : List Float) (free : List ℤ) (rounds : List ℕ) → then (lines_shape counts ls (room_of targets free rounds)) marks ≡ Ok tt → Shown inner gap counts ls targets free rounds
  shown targets free rounds h =
      let p = then_passed (lines_shape counts ls (room_of targets free rounds)) marks h in
      let e = shape_of counts ls (room_of targets free rounds) p.0 in
      let input = lines_input inner gap counts ls in
      let s = (accepted input (Ok tt) (sym (judged-checked input e.1.few (Ok tt)) ∙ ap (λ (v : Verdict). then v (Ok tt)) p.1)).0 in
      let d = division-fine counts (count ls) s.container.1.1.0 in
      let r = e.2 in
      record {
        even = e.1;
        sound = record { container = (s.container.0, (s.container.1.0, tt)); items = s.items };
        whole = d.0;
        positive = d.1;
        roomy = record { targets_room = omega arith; free_room = omega arith; rounds_room = omega arith };
      }

  pub lines_refused : (room : ℕ) (why : Refusal) → then (lines_shape counts ls room) marks ≡ Err why → lines_verdict inner gap counts ls room ≡ Err why
  unfolding lines_verdict
  lines_refused room why h = refused_then (lines_shape counts ls room) (lines_input inner gap counts ls) (summed (outer_sum (cleaned gap) (items_of ls))) why (λ e. (shape_of counts ls room e).1.few) h

  pub lines_passed : (room : ℕ) → then (lines_shape counts ls room) marks ≡ Ok tt → lines_verdict inner gap counts ls room ≡ summed (outer_sum (cleaned gap) (items_of ls))
  unfolding lines_verdict
  lines_passed room h = passed_then (lines_shape counts ls room) (lines_input inner gap counts ls) (summed (outer_sum (cleaned gap) (items_of ls))) (λ e. (shape_of counts ls room e).1.few) h

-- ---- the answer

module _ (inner gap : Float) (counts : List ℕ) (ls : Lists) (targets₀ : List Float) (free₀ : List ℤ) (rounds₀ : List ℕ) where
  -- where checks 1 to 5 refuse
  pub answered_refused : (why : Refusal) (r : Answer) → then (lines_shape counts ls (room_of targets₀ free₀ rounds₀)) (marks inner gap counts ls) ≡ Err why → r ≡ Err why → FlexedByLine inner gap counts ls r targets₀ free₀ rounds₀ targets₀ free₀ rounds₀
  answered_refused why r h e = subst (λ (r : Answer). FlexedByLine inner gap counts ls r targets₀ free₀ rounds₀ targets₀ free₀ rounds₀) (sym e) (lines_refused inner gap counts ls (room_of targets₀ free₀ rounds₀) why h, refl, refl, refl)

  -- and where they pass
  pub answered_passed : (r : Answer) (targets : List Float) (free : List ℤ) (rounds : List ℕ) → then (lines_shape counts ls (room_of targets₀ free₀ rounds₀)) (marks inner gap counts ls) ≡ Ok tt → SummedLines inner gap counts ls r targets₀ free₀ rounds₀ targets free rounds
      → FlexedByLine inner gap counts ls r targets₀ free₀ rounds₀ targets free rounds
  answered_passed r targets free rounds h a =
      subst (λ (v : Verdict). AnsweredLines v (cleaned inner) (cleaned gap) (item_at ls) (count ls) counts r targets₀ free₀ rounds₀ targets free rounds)
      (sym (lines_passed inner gap counts ls (room_of targets₀ free₀ rounds₀) h)) a

-- ---- the items, as they are read

-- those in the table
module _ (ls : Lists) (t : List Item) (n : ℕ) (e : n ≡ count ls) (w : count ls ≤ length t) (held : Held ls t) where
  pub long_part : length (take n t) ≡ count ls
  long_part = omega (arith, length-take n t, e, w)

  pub held_part : Held ls (take n t)
  held_part i h = get_or-take n t i no_item (omega (arith, e, h)) ∙ held i h

pub divided_of : (inner gap i g : Float) (counts : List ℕ) (ls : Lists) (s : List Item) (targets : List Float) (free : List ℤ) (rounds : List ℕ) → i ≡ cleaned inner → g ≡ cleaned gap → length s ≡ count ls → Held ls s → Shown inner gap counts ls targets free rounds
    → LinesDivided i g s (length s) counts targets free rounds
divided_of inner gap i g counts ls s targets free rounds ei eg l h p = subst (λ (n : ℕ). LinesDivided i g s n counts targets free rounds) (sym l) (record {
  inner_is = subst (λ (x : Float). Length x) (sym ei) (inner_length inner gap ls p.sound);
  gap_is = subst (λ (x : Float). Length x) (sym eg) (gap_length inner gap ls p.sound);
  wide = (p.even.few, omega (arith, l));
  tabled = tabled_of ls s h (measured_of inner gap ls p.sound);
  whole = p.whole;
  positive = p.positive;
  room = p.roomy.targets_room;
  free_room = p.roomy.free_room;
  rounds_room = p.roomy.rounds_room;
})

module _ (ls : Lists) (s : List Item) (long : length s ≡ count ls) (held : Held ls s) (counts : List ℕ) (w : line_start counts (length counts) ≡ count ls) (targets₀ : List Float) (free₀ : List ℤ) (rounds₀ : List ℕ) (targets : List Float) (free : List ℤ) (rounds : List ℕ) where
  same_sum : (g : Float) → summed (outer_sum g (items_of ls)) ≡ summed (outer_sum g s)
  same_sum g = ap (λ (l : List Item). summed (outer_sum g l)) (sym (sym (all_items s) ∙ ap (items_in s 0) long ∙ items_are ls s held))

  read_lines : (i g : Float) (r : Answer) → AnsweredLines (summed (outer_sum g s)) i g (item_in s) (length s) counts r targets₀ free₀ rounds₀ targets free rounds → AnsweredLines (summed (outer_sum g (items_of ls))) i g (item_at ls) (count ls) counts r targets₀ free₀ rounds₀ targets free rounds
  read_lines i g (Err why) a = (same_sum g ∙ a.0, a.1, a.2, a.3)
  read_lines i g (Ok d) a = (
    same_sum g ∙ a.0,
    a.1,
    lines_as i g (item_in s) (item_at ls) (count ls) counts d.rounds targets₀ free₀ rounds₀ targets free rounds w held
        (subst (λ (n : ℕ). FlexedLines i g (item_in s) n counts d.rounds targets₀ free₀ rounds₀ targets free rounds) long a.2),
  )

  pub answered_lines : (i i' g g' : Float) → i ≡ i' → g ≡ g' → (r : Answer) → AnsweredLines (summed (outer_sum g s)) i g (item_in s) (length s) counts r targets₀ free₀ rounds₀ targets free rounds → AnsweredLines (summed (outer_sum g' (items_of ls))) i' g' (item_at ls) (count ls) counts r targets₀ free₀ rounds₀ targets free rounds
  answered_lines i i' g g' p q r a =
      subst (λ (h : Float). AnsweredLines (summed (outer_sum h (items_of ls))) i' h (item_at ls) (count ls) counts r targets₀ free₀ rounds₀ targets free rounds) q
      (subst (λ (j : Float). AnsweredLines (summed (outer_sum g (items_of ls))) j g (item_at ls) (count ls) counts r targets₀ free₀ rounds₀ targets free rounds) p (read_lines i g r a))
