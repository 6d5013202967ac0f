-- `balance_run::read_back` meets its contract: what is read so far, with the choice for the rest, is the choice for all (ReadingLaws.antt).
use Rattle.std.proofs.Common.{◌≡◌, ◌+◌, ◌-◌, ◌*◌, ◌<◌, get_or, length, refl, arith}
use Rattle.balance_rows.proofs.ProgramLaws.{row_fits}
use Rattle.balance_run.proofs.ReadingLaws.{read_start, read_choice, read_more, read_end}
use Rattle.balance_run.proofs.read_back.Goals as goal

pub loop-i-init : goal.loop-i-init
loop-i-init c =
    let a = c.args in
    let e : a.line_count - 0 ≡ a.line_count = omega arith in
    rw e (read_start a.opts.now a.n a.line_count a.counts.now c.requires.2)

pub bounds-opts-line_count : goal.bounds-opts-line_count
bounds-opts-line_count c =
    let a = c.args in
    let l = c.loop-i in
    let t : 1 < a.line_count - l.i = omega arith in
    omega (arith, row_fits (a.line_count - l.i) a.line_count a.n (length a.opts.now) (omega (arith, t)) (omega arith) c.requires.5, (l.invariant.feas c.requires.0).room, c.requires.0.n_is, t)

pub overflow_sub-counts : goal.overflow_sub-counts
overflow_sub-counts c =
    let a = c.args in
    let l = c.loop-i in
    let t : 1 < a.line_count - l.i = omega arith in
    omega (arith, (read_choice l.invariant t c.requires.0).has.ok.some)

pub overflow_cast-counts : goal.overflow_cast-counts
overflow_cast-counts c =
    let a = c.args in
    let l = c.loop-i in
    let t : 1 < a.line_count - l.i = omega arith in
    omega (arith, (read_choice l.invariant t c.requires.0).has.ok.inside, c.requires.0.n_is, c.requires.1)

pub loop-i-preserved : goal.loop-i-preserved
loop-i-preserved c =
    let a = c.args in
    let l = c.loop-i in
    let t : 1 < a.line_count - l.i = omega arith in
    let e : a.line_count - (l.i + 1) ≡ a.line_count - l.i - 1 = omega arith in
    rw e (read_more l.invariant (get_or a.opts.now ((a.line_count - l.i - 2) * a.n + l.start) 0 - l.start + 1) t (omega (arith, c.requires.4, l.auto.counts)) refl c.requires.0)

pub returns : goal.returns
returns c =
    let a = c.args in
    let l = c.loop-i in
    let e : a.line_count - 1 ≡ l.i = omega arith in
    rw e (read_end l.invariant (a.n - l.start) (omega arith) (omega (arith, c.requires.4, l.auto.counts)) refl)
