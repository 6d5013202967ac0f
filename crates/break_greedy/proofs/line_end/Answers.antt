-- `line_end` meets its contract: the answer still to come stays the same, turn by turn (Line.antt).
use Rattle.std.proofs.Common.{sym, ◌∙◌, subst, arith}
use native.Mathlib.Nat.{le_antisymm}
use Rattle.break_greedy.specs.Steps.{LineEnd}
use Rattle.break_greedy.proofs.Line.{begin, next_at, turn, full, done}
use Rattle.break_greedy.proofs.line_end.Goals as goal

pub loop-i-init : goal.loop-i-init
loop-i-init c = let a = c.args in begin a.sizes.now a.gap a.limit c.requires.0 a.start c.requires.1

pub loop-i-preserved : goal.loop-i-preserved
loop-i-preserved c =
    let a = c.args in
    let l = c.loop-i in
    let z = next_at a.sizes.now a.gap a.limit c.requires.0 a.start l.size l.i l.invariant c.loop-i-test.true in
    turn a.sizes.now a.gap a.limit c.requires.0 a.start l.size l.i l.invariant c.loop-i-test.true
    (sym c.if-not-line_fits.false ∙ c.line_fits.ensures _ z)

pub returns-then-not-line_fits : goal.returns-then-not-line_fits
returns-then-not-line_fits c =
    let a = c.args in
    let l = c.loop-i in
    let z = next_at a.sizes.now a.gap a.limit c.requires.0 a.start l.size l.i l.invariant c.loop-i-test.true in
    full a.sizes.now a.gap a.limit c.requires.0 a.start l.size l.i l.invariant c.loop-i-test.true
    (sym c.if-not-line_fits.true ∙ c.line_fits.ensures _ z)

pub returns : goal.returns
returns c =
    let a = c.args in
    let l = c.loop-i in
    subst (LineEnd a.limit a.gap a.sizes.now a.start) (le_antisymm l.invariant.inside (omega (arith, c.loop-i-test.false)))
    (done a.sizes.now a.gap a.limit c.requires.0 a.start l.size l.i l.invariant c.loop-i-test.false)
