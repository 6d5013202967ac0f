-- What checks 1 and 2 show of the items' lists: each of their columns is there, and of n cells. Assumes nothing.
use mathlib.Core.Path.{◌≡◌, sym, ◌∙◌}
use mathlib.Core.List.{List}
use Prim.Native.Nat.{ℕ, ◌*◌, ◌<◌}
use native.Mathlib.Nat.{le_trans, le_of_eq}
use native.Mathlib.Omega.{arith}
use lib.ListN.{length}
use lib.Ieee.{Float}
use Rattle.flex.specs.Accepted.{Even}
use Rattle.place_cross.specs.Parts.{SameLengths}
use Rattle.pass_container.specs.Columns.{column, main_lists, cross_items, align_self, auto_size}
use Rattle.pass_container.specs.declared.items.Items.{Items}
use Rattle.pass_container.specs.Stages.{Inside, ItemLists}
use Rattle.pass_container.proofs.ColumnLaws.{before, length-column}

module _ {n : ℕ} {x : List Float} {c : List ℕ} (t : ItemLists n x c) where
  pub number_inside : (k : ℕ) → k < 14 → Inside n k x
  number_inside k h = record { few = t.few; one_of = omega arith; inside = le_trans {m = 14 * n} (before n k 14 h) (le_of_eq (sym t.numbers_long)) }

  pub code_inside : (k : ℕ) → k < 8 → Inside n k c
  code_inside k h = record { few = t.few; one_of = omega arith; inside = le_trans {m = 8 * n} (before n k 8 h) (le_of_eq (sym t.codes_long)) }

  pub number_length : (k : ℕ) → k < 14 → length (column n k x) ≡ n
  number_length k h = length-column n k x (number_inside k h).inside

  pub code_length : (k : ℕ) → k < 8 → length (column n k c) ≡ n
  code_length k h = length-column n k c (code_inside k h).inside

  -- ---- the main axis

  pub even_main : Even (main_lists n x c)
  even_main =
      let b = number_length 0 (omega arith) in
      let number : (k : ℕ) → k < 14 → length (column n k x) ≡ length (column n 0 x) = λ k h. number_length k h ∙ sym b in
      let code : (k : ℕ) → k < 8 → length (column n k c) ≡ length (column n 0 x) = λ k h. code_length k h ∙ sym b in
      record {
        few = le_trans {m = n} (le_of_eq b) t.few;
        minimum = number 1 (omega arith);
        maximum = number 2 (omega arith);
        has_maximum = code 0 (omega arith);
        edges = number 3 (omega arith);
        grow = number 4 (omega arith);
        shrink = number 5 (omega arith);
        start = number 6 (omega arith);
        end = number 7 (omega arith);
        auto_start = code 1 (omega arith);
        auto_end = code 2 (omega arith);
      }

  -- ---- the cross axis

  pub lengths_cross : SameLengths (cross_items n x c) (align_self n c) (auto_size n c)
  lengths_cross =
      let b = number_length 8 (omega arith) in
      let number : (k : ℕ) → k < 14 → length (column n k x) ≡ length (column n 8 x) = λ k h. number_length k h ∙ sym b in
      let code : (k : ℕ) → k < 8 → length (column n k c) ≡ length (column n 8 x) = λ k h. code_length k h ∙ sym b in
      record {
        even = record {
          few = le_trans {m = n} (le_of_eq b) t.few;
          minimum = number 9 (omega arith);
          maximum = number 10 (omega arith);
          capped = code 3 (omega arith);
          edges = number 11 (omega arith);
          start = number 12 (omega arith);
          end = number 13 (omega arith);
          auto_start = code 4 (omega arith);
          auto_end = code 5 (omega arith);
        };
        alignment_length = code 6 (omega arith);
        auto_length = code 7 (omega arith);
      }

-- the lists of a value of `Items`
pub of_items : (i : Items) → ItemLists i.count i.numbers.now i.codes.now
of_items i = record { few = i.few; numbers_long = i.numbers_long; codes_long = i.codes_long }
