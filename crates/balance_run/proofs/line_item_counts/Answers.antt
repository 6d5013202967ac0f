-- `balance_run::line_item_counts` meets its contract: the tables and the rows are those of the items, so that what is read back is chosen (Finish.antt).
use Rattle.std.proofs.Common.{◌≡◌, length, refl, ◌∙◌, arith}
use Rattle.balance_run.proofs.Finish.{fit_range, fit_rising, Made, k_hi, k_lo, rows_room, row_base, readable, finish}
use Rattle.balance_run.proofs.line_item_counts.Goals as goal
use Rattle.balance_run.proofs.line_item_counts.Goals.{After-first_row}

-- the tables, where the rows are called
made : (c : After-first_row) → Made c.args.sums.up_to.now c.args.sums.gap.0 c.args.limit c.args.minimum c.first_row.new.prev c.fit_ends.new.fit c.suffix_greedy.new.greedy c.forward.new.reach c.max-line_count.result
made c =
    let q = c.requires.room in
    record {
      some = c.requires.given.1;
      few = c.requires.given.2;
      prev_length = c.first_row.auto.prev ∙ q.0;
      fit_length = c.fit_ends.auto.fit ∙ q.2;
      greedy-length = c.suffix_greedy.auto.greedy ∙ q.3;
      reach_length = c.forward.auto.reach ∙ q.4;
      fits = c.fit_ends.ensures;
      counts = c.suffix_greedy.ensures;
      reaches = c.forward.ensures;
      first = c.first_row.ensures;
      k_is = omega (arith, c.max-line_count.ensures, c.clamp-held.ensures);
    }

pub forward-requires : goal.forward-requires
forward-requires c =
    let given = c.requires.given in
    let q = c.requires.room in
    let fits = c.fit_ends in
    let long : length fits.new.fit ≡ length c.args.sums.up_to.now = fits.auto.fit ∙ q.2 in (
      omega (arith, long, q.4),
      omega (arith, long, given.2),
      fit_range fits.ensures long,
      fit_rising long fits.ensures given.0,
    )

pub rows-requires : goal.rows-requires
rows-requires c =
    let q = c.requires.room in
    let prev = c.first_row.new.prev in
    let m = made (goal.at.rows-requires c).After-first_row in (
      row_base m c.requires.given.0,
      omega (arith, q.1, m.prev_length),
      k_lo m,
      omega (arith, k_hi m, m.prev_length),
      rows_room m (length prev) (length c.args.opts.now) m.prev_length q.5,
    )

pub read_back-requires : goal.read_back-requires
read_back-requires c =
    let q = c.requires.room in
    let m = made (goal.at.read_back-requires c).After-first_row in
    let opts = c.rows.new.opts in (
      readable m c.rows.ensures c.requires.given.0,
      c.requires.given.2,
      k_lo m,
      k_hi m,
      omega (arith, k_hi m, q.6),
      rows_room m (length c.args.sums.up_to.now) (length opts) refl (c.rows.auto.opts ∙ q.5),
    )

pub returns : goal.returns
returns c = finish (made (goal.at.returns c).After-first_row) c.rows.ensures c.read_back.new.counts c.read_back.ensures
