-- A call over many lines that checks 1 to 5 have passed is read, and flexed. Assumes nothing.
use native.Mathlib.Omega.{arith}
use Rattle.grid.specs.Grid.{cleaned}
use Rattle.flex.specs.Items.{lists_of, count}
use Prim.Native.Nat.{◌≤◌}
use lib.ListN.{length, take}
use Rattle.flex_lines_call.proofs.ManyLines.{long_part, held_part, divided_of, answered_lines}
use Rattle.flex_lines_call.proofs.CheckedLines.flex_in.Goals as goal

pub flex_lines_read-requires : goal.flex_lines_read-requires
flex_lines_read-requires c =
    let a = c.args.self in
    let b = c.args in
    let ls = lists_of a.items in
    let t = c.read_items.new.table in
    let n = c.len.result in
    let w : count ls ≤ length t = omega (arith, c.requires.1, c.read_items.auto.table) in
    divided_of a.inner a.gap c.clean.result c.clean-2.result a.counts.now ls (take n t) b.targets.now b.free.now
    b.rounds.now c.clean.ensures c.clean-2.ensures (long_part ls t n c.len.ensures w c.read_items.ensures.held)
    (held_part ls t n c.len.ensures w c.read_items.ensures.held)
    (record { even = a.even; sound = a.sound; whole = a.whole; positive = a.positive; roomy = c.requires.0 })

pub returns : goal.returns
returns c =
    let a = c.args.self in
    let b = c.args in
    let ls = lists_of a.items in
    let t = c.read_items.new.table in
    let n = c.len.result in
    let w : count ls ≤ length t = omega (arith, c.requires.1, c.read_items.auto.table) in
    let f = c.flex_lines_read in
    answered_lines ls (take n t) (long_part ls t n c.len.ensures w c.read_items.ensures.held)
    (held_part ls t n c.len.ensures w c.read_items.ensures.held) a.counts.now a.whole b.targets.now b.free.now
    b.rounds.now f.new.targets f.new.free f.new.rounds c.clean.result (cleaned a.inner) c.clean-2.result (cleaned a.gap)
    c.clean.ensures c.clean-2.ensures f.result f.ensures
