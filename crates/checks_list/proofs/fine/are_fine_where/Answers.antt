-- `checks_list::fine::are_fine_where` meets its contract. The loop's invariant: ok says it of the items passed. Assumes nothing.
use mathlib.Core.Path.{◌≡◌, sym, ap, ap₂, ◌∙◌}
use mathlib.Core.Bool.{Bool, not, ◌&&◌, ◌||◌}
use Prim.Native.Nat.{ℕ}
use native.Mathlib.Omega.{arith}
use lib.Dec.{eqb}
use lib.ListN.{length, get_or}
use Rattle.checks.specs.declared.Kind.{Kind}
use Rattle.checks_list.specs.Every.{every}
use Rattle.checks_list.proofs.Every.{every-none, every_more}
use Rattle.checks_list.proofs.fine.are_fine_where.Goals as goal
use Rattle.checks_list.proofs.fine.are_fine_where.Goals.{Start}
use Rattle.checks_list.proofs.fine.are_fine_where.Invariants.{fineAt}

-- the question asked of the lists that the function is called with
abbrev given : Start → Kind → ℕ → Bool
given c kind = fineAt kind c.args.xs.now c.args.codes.now c.args.taken

pub loop-i-init : goal.loop-i-init
loop-i-init c = sym (every-none (given (goal.at.loop-i-init c).Start c.args.kind))

pub loop-i-preserved : goal.loop-i-preserved
loop-i-preserved c =
    ap₂ (λ (p q : Bool). p && (not (eqb (get_or c.args.codes.now c.loop-i.i 0) c.args.taken) || q)) c.loop-i.invariant (c.is_fine.ensures c.args.kind c.bounds_of-b.ensures)
    ∙ sym (every_more (given (goal.at.loop-i-preserved c).Start c.args.kind) c.loop-i.i)

pub returns : goal.returns
returns c =
    let n : c.loop-i.i ≡ length c.args.xs.now = omega (arith, c.loop-i-test.false, c.loop-i.auto.i-end) in
    c.loop-i.invariant ∙ ap (every (given (goal.at.returns c).Start c.args.kind)) n
