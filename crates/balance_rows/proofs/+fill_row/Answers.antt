-- `balance_rows::fill_row` meets its contract: the middle start by its choice, the halves by the calls (`row_step` of Steps.antt in `balance_choice`).
use Rattle.std.proofs.Common.{ℕ, List, ◌+◌, ◌-◌, ◌/◌, set, arith}
use Rattle.std.specs.Prelude.{Float}
use Rattle.balance_choice.specs.Cells.{RowOut}
use Rattle.balance_choice.proofs.Steps.{row_empty, row_step}
use Rattle.balance_rows.proofs.+fill_row.Goals as goal
use Rattle.balance_rows.proofs.+fill_row.Goals.{Joined-starts-start, then-starts-start, else-starts-start}

-- the starts before the middle one, whether there are any or not
left : (t : ℕ) (c : Joined-starts-start t) → let r = c.args.row.now in let a = c.args.starts in let s : ℕ = a.start + (a.end - a.start) / 2 in
    RowOut r.sums.up_to.now r.sums.gap.0 r.fit.now r.below.now r.max_end a.start s c.args.ends.start c.pick-picked.result.hi
    (set c.args.cur.now s c.cost.result.0) c.if-starts-start.cur (set c.args.opts.now s c.pick-picked.result.end) c.if-starts-start.opts
left t c =
    elim c.if-starts-start.branch [
      | then-starts-start w ↦ rw (w.cur-is, w.opts-is) w.fill_row.ensures
      | else-starts-start w ↦ rw (w.cur-is, w.opts-is) (row_empty w.if-starts-start.false)
    ]

-- the whole range, from what the starts after the middle one give
whole : (t : ℕ) (c : Joined-starts-start t) (cur : List Float) (opts : List ℕ) → let r = c.args.row.now in let a = c.args.starts in let e = c.args.ends in let s : ℕ = a.start + (a.end - a.start) / 2 in
    RowOut r.sums.up_to.now r.sums.gap.0 r.fit.now r.below.now r.max_end (s + 1) a.end c.pick-picked.result.lo e.end c.if-starts-start.cur cur c.if-starts-start.opts opts
    → RowOut r.sums.up_to.now r.sums.gap.0 r.fit.now r.below.now r.max_end a.start a.end e.start e.end c.args.cur.now cur c.args.opts.now opts
whole t c cur opts right =
    let p = c.requires in
    let g = c.if-starts.true in
    row_step (omega arith) (omega (arith, g)) (omega (arith, g, p.1, p.2, p.0.room)) (omega (arith, g, p.1, p.3, p.0.room))
    c.pick-picked.ensures (rw c.base-base.ensures at c.cost.ensures) (left t c) right

pub returns-then-next-starts : goal.returns-then-next-starts
returns-then-next-starts t c =
    let two = c.fill_row-then-next-starts in
    whole t (goal.at.returns-then-next-starts t c).Joined-starts-start two.new.cur two.new.opts two.ensures

pub returns-else-next-starts : goal.returns-else-next-starts
returns-else-next-starts t c =
    let j = c.if-starts-start in
    whole t (goal.at.returns-else-next-starts t c).Joined-starts-start j.cur j.opts (row_empty c.if-next-starts.false)
