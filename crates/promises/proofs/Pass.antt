-- The promises of the whole pass, filled. Assumes nothing.
use mathlib.Core.Path.{◌≡◌, refl}
use mathlib.Core.List.{[], ◌∷◌, ◌++◌}
use Prim.Native.Nat.{ℕ, zero, suc, ◌<◌}
use native.Mathlib.Omega.{arith}
use lib.Ieee.{Float}
use Rattle.lists.specs.Cells.{sum_up_to}
use Rattle.lists.specs.ByLine.{part}
use Rattle.pass_container.specs.Columns.{column}
use Rattle.pass.specs.Alone.{SameItems}
use Rattle.pass.proofs.LineAlone.{pass_independent}
use Rattle.pass.proofs.OneLaid.{laid_one}
use Rattle.pass.proofs.OnePass.{one_pass}
use Rattle.promises.specs.Pass.{repeated, Promised}

unlike : (own across across' a b c : Float) (code other other' k l m : ℕ) → SameItems (1 ∷ 1 ∷ []) (1 ∷ 1 ∷ 1 ∷ []) 0 1 2 3
    (repeated 8 (own ∷ a ∷ []) ++ repeated 6 (across ∷ a ∷ [])) (repeated 8 (b ∷ own ∷ c ∷ []) ++ repeated 6 (b ∷ across' ∷ c ∷ []))
    (repeated 3 (code ∷ k ∷ []) ++ repeated 5 (other ∷ k ∷ [])) (repeated 3 (l ∷ code ∷ m ∷ []) ++ repeated 5 (l ∷ other' ∷ m ∷ []))
unfolding column sum_up_to
unlike own across across' a b c code other other' k l m = record { as_many = refl; numbers = numbers; marks = marks }
  where
    numbers : (i : ℕ) → i < 8 → ◌≡◌ (part (1 ∷ 1 ∷ []) 0 (column 2 i (repeated 8 (own ∷ a ∷ []) ++ repeated 6 (across ∷ a ∷ [])))) (part (1 ∷ 1 ∷ 1 ∷ []) 1 (column 3 i (repeated 8 (b ∷ own ∷ c ∷ []) ++ repeated 6 (b ∷ across' ∷ c ∷ []))))
    numbers zero h = refl
    numbers (suc zero) h = refl
    numbers (suc (suc zero)) h = refl
    numbers (suc (suc (suc zero))) h = refl
    numbers (suc (suc (suc (suc zero)))) h = refl
    numbers (suc (suc (suc (suc (suc zero))))) h = refl
    numbers (suc (suc (suc (suc (suc (suc zero)))))) h = refl
    numbers (suc (suc (suc (suc (suc (suc (suc zero))))))) h = refl
    numbers (suc (suc (suc (suc (suc (suc (suc (suc i)))))))) h = absurd (omega arith)

    marks : (i : ℕ) → i < 3 → ◌≡◌ (part (1 ∷ 1 ∷ []) 0 (column 2 i (repeated 3 (code ∷ k ∷ []) ++ repeated 5 (other ∷ k ∷ [])))) (part (1 ∷ 1 ∷ 1 ∷ []) 1 (column 3 i (repeated 3 (l ∷ code ∷ m ∷ []) ++ repeated 5 (l ∷ other' ∷ m ∷ []))))
    marks zero h = refl
    marks (suc zero) h = refl
    marks (suc (suc zero)) h = refl
    marks (suc (suc (suc i))) h = absurd (omega arith)

pub promised : Promised
promised = record {
  laid_one = laid_one;
  one_pass = one_pass;
  pass_independent = pass_independent;
  unlike = unlike;
}
