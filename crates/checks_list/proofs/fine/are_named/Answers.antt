-- `checks_list::fine::are_named` meets its contract. The loop's invariant: ok says it of the codes passed. Assumes nothing.
use mathlib.Core.Path.{◌≡◌, sym, ap, ◌∙◌}
use mathlib.Core.Bool.{Bool, ◌&&◌}
use native.Mathlib.Omega.{arith}
use lib.ListN.{length}
use Rattle.checks_list.specs.Every.{every}
use Rattle.checks_list.proofs.Every.{every-none, every_more}
use Rattle.checks_list.proofs.fine.are_named.Goals as goal
use Rattle.checks_list.proofs.fine.are_named.Invariants.{named_at}

pub loop-code-init : goal.loop-code-init
loop-code-init c = sym (every-none (named_at c.args.most c.args.codes.now))

pub loop-code-preserved : goal.loop-code-preserved
loop-code-preserved c =
    let q = named_at c.args.most c.args.codes.now in
    ap (λ (p : Bool). p && q c.loop-code.code-index) c.loop-code.invariant ∙ sym (every_more q c.loop-code.code-index)

pub returns : goal.returns
returns c =
    let n : c.loop-code.code-index ≡ length c.args.codes.now = omega arith in
    c.loop-code.invariant ∙ ap (every (named_at c.args.most c.args.codes.now)) n
