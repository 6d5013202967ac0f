-- `greedy_counts` meets its contract: the counts written, and then those of the lines to come, are greedy breaking's (Counts.antt).
use Rattle.std.proofs.Common.{◌≡◌, ◌≤◌, ◌<◌, ℕ, List, length, sym, subst, arith}
use lib.ListN.{length-map}
use Rattle.std.specs.Prelude.{Float}
use Rattle.grid.specs.Grid.{sixty_fourths}
use Rattle.break_greedy.specs.Breaking.{limit_of}
use Rattle.break_greedy.specs.Calls.{units}
use Rattle.break_greedy.proofs.Counts.{begin, turn, end_inside, finish}
use Rattle.break_greedy.proofs.greedy_counts.Goals as goal

same : (sizes : List Float) → length (units sizes) ≡ length sizes
same sizes = length-map sizes sixty_fourths

as_units : (sizes : List Float) {n : ℕ} → n < length sizes → n < length (units sizes)
as_units sizes {n} h = subst (λ (m : ℕ). n < m) (sym (same sizes)) h

room : (sizes : List Float) {n : ℕ} → length sizes ≤ n → length (units sizes) ≤ n
room sizes {n} h = subst (λ (m : ℕ). m ≤ n) (sym (same sizes)) h

pub loop-start-init : goal.loop-start-init
loop-start-init c =
    let a = c.args in
    begin (limit_of a.limit) (sixty_fourths a.gap) (units a.sizes.now) a.counts.now (room a.sizes.now c.requires.1)

pub overflow_cast-counts : goal.overflow_cast-counts
overflow_cast-counts c =
    let a = c.args in
    let e = end_inside (limit_of a.limit) (sixty_fourths a.gap) (units a.sizes.now) c.loop-start.start (as_units a.sizes.now c.loop-start-test.true) in
    omega (arith, e.1, c.line_end-end.ensures, same a.sizes.now, c.requires.0.few)

pub loop-start-preserved : goal.loop-start-preserved
loop-start-preserved c =
    let a = c.args in
    let l = c.loop-start in
    turn (limit_of a.limit) (sixty_fourths a.gap) (units a.sizes.now) a.counts.now (room a.sizes.now c.requires.1)
    l.counts l.start l.n (as_units a.sizes.now c.loop-start-test.true) l.invariant c.line_end-end.result c.line_end-end.ensures

pub returns : goal.returns
returns c =
    let a = c.args in
    let l = c.loop-start in
    finish (limit_of a.limit) (sixty_fourths a.gap) (units a.sizes.now) a.counts.now (room a.sizes.now c.requires.1)
    l.counts l.start l.n l.invariant (omega (arith, c.loop-start-test.false, same a.sizes.now))
