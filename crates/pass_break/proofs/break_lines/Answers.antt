-- `break_lines` meets its contract: each mode's part gives what the mode asks (Modes.antt). Assumes nothing.
use Prim.Native.Nat.{◌≤◌}
use lib.ListN.{length}
use Rattle.balance.specs.Calls.{BreakLent, break_lent}
use Rattle.pass_break.proofs.Modes.{room_counts, room_balanced, single_wrapped, greedy_wrapped, balanced_wrapped}
use Rattle.pass_break.proofs.break_lines.Goals as goal
use Rattle.pass_break.proofs.break_lines.Goals.{Start}

-- the lists as they are lent, and their room for the counts
abbrev before : Start → BreakLent
before c = break_lent c.args.counts.now c.args.work.now c.args.sums.now

room : (c : Start) → length c.args.sizes.now ≤ length c.args.counts.now
room c = room_counts c.args.mode (length c.args.sizes.now) (before c) c.requires.1

pub single_line-requires : goal.single_line-requires
single_line-requires c =
    (c.requires.0.few, room (goal.at.single_line-requires c).Start)

pub greedy_checked-requires : goal.greedy_checked-requires
greedy_checked-requires c =
    (c.requires.0, room (goal.at.greedy_checked-requires c).Start)

pub divide_lent-requires : goal.divide_lent-requires
divide_lent-requires c =
    (c.requires.0, room_balanced c.args.mode (length c.args.sizes.now) (break_lent c.args.counts.now c.args.work.now c.args.sums.now) c.in-Balanced.is c.requires.1)

pub returns-in-Single : goal.returns-in-Single
returns-in-Single c =
    let a = c.args in
    let l = c.single_line in
    single_wrapped a.limit a.gap a.minimum a.sizes.now a.mode c.in-Single.is l.result a.counts.now _ a.work.now a.sums.now l.ensures

pub returns-in-Greedy : goal.returns-in-Greedy
returns-in-Greedy c =
    let a = c.args in
    let l = c.greedy_checked in
    greedy_wrapped a.limit a.gap a.minimum a.sizes.now a.mode c.in-Greedy.is l.result a.counts.now _ a.work.now a.sums.now l.ensures

pub returns-in-Balanced : goal.returns-in-Balanced
returns-in-Balanced c =
    let a = c.args in
    let l = c.divide_lent in
    balanced_wrapped a.limit a.gap a.minimum a.sizes.now a.mode c.in-Balanced.is (break_lent c.args.counts.now c.args.work.now c.args.sums.now) l.result (break_lent l.new.counts l.new.work l.new.sums) l.ensures
