-- `export_limit::Asked::mark` meets its contract: the least of six marks, whichever way they are paired. Assumes nothing.
use mathlib.Core.Path.{◌≡◌, ap, ap₂, ◌∙◌}
use Prim.Native.Nat.{ℕ, min, zero-le, ◌≤◌}
use native.Mathlib.Omega.{arith}
use Rattle.checks.specs.Domain.{code}
use Rattle.checks.specs.Marks.{mark, least_of}
use Rattle.checks.proofs.Checks.{mark_most}
use Rattle.export_limit.proofs.Asked.mark.Goals as goal

-- min is associative, and a mark is never above the mark of no refusal
paired : (a b d e f g : ℕ) → g ≤ 6144 → min (min a (min b d)) (min e (min f g)) ≡ min a (min b (min d (min e (min f (min g 6144)))))
paired a b d e f g h =
    assoc a (min b d) (min e (min f g))
    ∙ ap (min a) (assoc b d (min e (min f g)))
    ∙ ap (λ (k : ℕ). min a (min b (min d (min e (min f k))))) (low g h)
  where
    assoc : (x y z : ℕ) → min (min x y) z ≡ min x (min y z)
    assoc x y z = omega arith

    low : (k : ℕ) → k ≤ 6144 → k ≡ min k 6144
    low k h = omega arith

pub returns : goal.returns
unfolding least_of
returns c =
    let a = c.args.self in
    c.least-3.ensures
    ∙ ap₂ min
    (c.least-flags.ensures ∙ ap₂ min c.mark_code.ensures (c.least.ensures ∙ ap₂ min c.mark_code-2.ensures c.mark_code-3.ensures))
    (c.least-kinds.ensures ∙ ap₂ min c.mark_code-4.ensures (c.least-2.ensures ∙ ap₂ min c.mark_code-5.ensures c.mark_code-6.ensures))
    ∙ paired (mark (code 1 a.known) 0) (mark (code 1 a.main) 0) (mark (code 1 a.row) 0) (mark (code 2 a.kind) 0) (mark (code 1 a.has_minimum) 0) (mark (code 1 a.has_maximum) 0) (mark_most (code 1 a.has_maximum) 0 zero-le)
