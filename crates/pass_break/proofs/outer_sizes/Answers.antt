-- The first i cells are the sizes of the first i items (`written_turn` of lists). Assumes nothing.
use Rattle.std.proofs.Common.{◌<◌, ◌+◌, ◌++◌, ℕ, List, Float, length, drop, sym, ap, ◌∙◌, arith}
use native.Mathlib.Nat.{le_antisymm, zero-add}
use Rattle.flex.specs.declared.Item.{Item}
use Rattle.flex.specs.Flex.{outer, hypothetical}
use Rattle.lists.specs.Cells.{each}
use Rattle.flex_table.specs.Table.{item_in}
use Rattle.lists.proofs.Each.{map_each, written_none, written_turn}
use Rattle.pass_break.proofs.outer_sizes.Goals as goal
use Rattle.pass_break.proofs.outer_sizes.Invariants.{size}

pub loop-i-init : goal.loop-i-init
loop-i-init c = written_none (size c.args.table.now) c.args.sizes.now

pub loop-i-preserved : goal.loop-i-preserved
loop-i-preserved c =
    let l = c.loop-i in
    let a = c.args in
    let inside : l.i < length a.sizes.now = omega (arith, c.loop-i-test.true, c.requires.1) in
    let it = item_in a.table.now l.i in
    written_turn (size a.table.now) l.i a.sizes.now inside l.invariant
    (c.outer_size.ensures ∙ ap (outer it) c.hypothetical_size.ensures ∙ ap (λ (k : ℕ). outer (item_in a.table.now k) (hypothetical (item_in a.table.now k))) (sym (zero-add l.i)))

pub returns : goal.returns
returns c =
    let l = c.loop-i in
    let a = c.args in
    l.invariant
    ∙ ap (λ (k : ℕ). each k (size a.table.now) ++ drop k a.sizes.now) (le_antisymm l.auto.i-end c.loop-i-test.false)
    ∙ ap (λ (s : List Float). s ++ drop a.n a.sizes.now) (sym (map_each (λ (it : Item). outer it (hypothetical it)) a.n (λ (i : ℕ). item_in a.table.now (0 + i))))
