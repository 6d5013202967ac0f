-- The contract of the exported pass leaves no choice: any two results that it allows, cells included, are equal. By the same of the pass inside.
-- Assumes nothing.
use mathlib.Core.Path.{◌≡◌, sym, ap, ◌∙◌}
use mathlib.Core.List.{List}
use Prim.Native.Nat.{ℕ}
use lib.Ieee.{Float}
use Rattle.pass_container.specs.declared.Container.{Container}
use Rattle.pass.specs.Laid.{PassLent}
use Rattle.pass.proofs.OnePass.{one_pass}
use Rattle.export_pass.specs.declared.CPassed.{CPassed}
use Rattle.export_pass.specs.Passed.{c_passed, PassedFromC}

pub one_passed : (c : Container) (n : ℕ) (x : List Float) (codes : List ℕ) (b : PassLent) (r s : CPassed) (a d : PassLent) → PassedFromC c n x codes b r a → PassedFromC c n x codes b s d → (r ≡ s) × (a ≡ d)
one_passed c n x codes b r s a d p q =
    let e = one_pass c n x codes b p.inside q.inside a d p.passed q.passed in
    (p.told ∙ ap c_passed e.0 ∙ sym q.told, e.1)
