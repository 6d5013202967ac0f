-- A call that checks 1 to 5 have passed is read, and flexed. Assumes nothing.
use mathlib.Core.Path.{◌≡◌, sym, ap, ◌∙◌, subst}
use mathlib.Core.List.{List}
use Prim.Native.Nat.{ℕ, ◌≤◌}
use native.Mathlib.Omega.{arith}
use lib.ListN.{length, take}
use lib.Ieee.{Float}
use Rattle.grid.specs.Values.{Length}
use Rattle.flex.specs.declared.Item.{Item}
use Rattle.flex.specs.Accepted.{Measured, Every}
use Rattle.flex.specs.Items.{Lists, lists_of, count, item_at, items_of}
use Rattle.std.proofs.lemmas.List.{length-take}
use Rattle.flex_table.specs.Table.{Held}
use Rattle.flex_table.proofs.Items.{items_are, first_items, every-each}
use Rattle.flex_checks.proofs.Accept.{inner_length, gap_length, measured_of}
use Rattle.flex_line_call.proofs.OneLine.{answered_as}
use Rattle.flex_line_call.proofs.CheckedLine.flex_in.Goals as goal

read : (ls : Lists) (t : List Item) (n : ℕ) → n ≡ count ls → count ls ≤ length t → Held ls t → take n t ≡ items_of ls
read ls t n e l h = ap (λ (k : ℕ). take k t) e ∙ first_items t (count ls) l ∙ items_are ls t h

pub flex_read-requires : goal.flex_read-requires
flex_read-requires c =
    let a = c.args.self in
    let ls = lists_of a.items in
    let t = c.read_items.new.table in
    let n = c.len.result in (
      omega (arith, length-take n t, c.len.ensures, a.even.few),
      omega (arith, length-take n t, c.len.ensures, c.requires.0),
      subst (λ (x : Float). Length x) (sym c.clean.ensures) (inner_length a.inner a.gap ls a.sound),
      subst (λ (x : Float). Length x) (sym c.clean-2.ensures) (gap_length a.inner a.gap ls a.sound),
      subst (Every Measured)
          (sym (read ls t n c.len.ensures (omega (arith, c.requires.1, c.read_items.auto.table)) c.read_items.ensures.held))
          (every-each (count ls) (item_at ls) (measured_of a.inner a.gap ls a.sound)),
    )

pub returns : goal.returns
returns c =
    let a = c.args.self in
    let ls = lists_of a.items in
    let t = c.read_items.new.table in
    answered_as _ _ _ _ _ _ c.clean.ensures c.clean-2.ensures
    (read ls t c.len.result c.len.ensures (omega (arith, c.requires.1, c.read_items.auto.table)) c.read_items.ensures.held)
    c.flex_read.result c.args.targets.now c.flex_read.new.targets c.flex_read.ensures
