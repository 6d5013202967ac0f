-- `balance_rows::rows` meets its contract: the rows so far are kept, and the last one stands in `prev` (`rows_more` of ProgramLaws.antt).
use Rattle.std.proofs.Common.{◌≡◌, ◌+◌, ◌-◌, ◌≤◌, ◌++◌, length, length-take, length-drop, refl, ◌∙◌, arith}
use borrow.Rule.Slice.PartMut.{post_of}
use Rattle.balance_tables.specs.Tables.{FirstFor}
use Rattle.balance_rows.proofs.ProgramLaws.{rows_more, row_fits, row_next, mid_here, mid_before}
use Rattle.balance_rows.proofs.rows.Goals as goal
use Rattle.balance_rows.proofs.rows.Goals.{In-loop-lines}

-- the row lies within the choices
fits : (c : In-loop-lines) → c.loop-lines.row + length c.args.sums.up_to.now ≤ length c.loop-lines.opts
fits c =
    let a = c.args in
    let l = c.loop-lines in
    let n = length a.sums.up_to.now in
    omega (arith, l.invariant.row_is, l.auto.opts, l.auto.lines, row_fits l.lines a.line_count n (length a.opts.now) (omega arith) (omega arith) (rw c.requires.0.sums_length c.requires.4))

pub slice_bounds-one_row-end : goal.slice_bounds-one_row-end
slice_bounds-one_row-end c = fits (goal.at.slice_bounds-one_row-end c).In-loop-lines

pub loop-lines-preserved : goal.loop-lines-preserved
loop-lines-preserved c =
    let a = c.args in
    let b = c.requires.0 in
    let l = c.loop-lines in
    let t = c.loop-lines-test.true in
    let n = length a.sums.up_to.now in
    let from = c.first_start-from in
    let one = c.one_row in
    let part = one.new.opts in
    let fit = fits (goal.at.loop-lines-preserved c).In-loop-lines in
    let part_length : length part ≡ n = one.auto.opts ∙ simp (length-take, length-drop) (omega (arith, fit)) in
    let first : FirstFor a.tables.greedy.now (l.lines + 1 - 1) from.result = rw (let e : l.lines + 1 - 1 ≡ l.lines = omega arith in e) from.ensures.0 in
    record {
      row_is = row_next l.lines n l.row l.auto.lines l.invariant.row_is;
      seen_first = first;
      seen_hi = omega (arith, from.ensures.1, l.invariant.seen_hi);
      so_far = rows_more l.auto.lines (omega (arith, t)) (omega (arith, c.requires.3, b.sums_length)) (omega (arith, l.auto.prev, b.sums_length)) (omega (arith, b.fit_length, b.sums_length)) (omega (arith, b.greedy-length, b.sums_length)) l.invariant.row_is
          b.falling b.reaches from.ensures.0 l.invariant.seen_first c.max-start_lo.ensures refl l.invariant.so_far one.ensures
          (λ s h. mid_here l.row l.opts part (post_of l.row (l.row + n - l.row) l.opts) s (omega (arith, fit)) (omega (arith, part_length)))
          (λ i h. mid_before l.row l.opts (part ++ post_of l.row (l.row + n - l.row) l.opts) i (omega (arith, fit)) h);
    }

pub returns : goal.returns
returns c =
    let l = c.loop-lines in
    let e : l.lines ≡ c.args.line_count + 1 = omega (arith, l.auto.lines-end, c.loop-lines-test.false, c.requires.2) in
    rw e at l.invariant.so_far
