-- A verdict is a pass or a refusal, and not both; a refusal says why. Assumes nothing.
use mathlib.Core.Path.{◌≡◌, refl, sym, ap, ◌∙◌}
use mathlib.Core.Bool.{Bool, true, false, true≢false}
use Rattle.checks.specs.Domain.{then, Verdict}
use Rattle.checks.specs.declared.Refusal.{Refusal}
use Rattle.checks.specs.declared.Refusal.TheVariants.{TooManyItems}
use Rattle.std.specs.declared.result.Result.TheVariants.{Ok, Err}

abbrev is_passed : Verdict → Bool
is_passed (Ok tt) = true
is_passed (Err why) = false

-- whatever it is of a pass
abbrev why_of : Verdict → Refusal
why_of (Ok tt) = TooManyItems
why_of (Err why) = why

pub not_both : {v : Verdict} {why : Refusal} → v ≡ Ok tt → v ≡ Err why → ⊥
not_both p q = true≢false (ap is_passed (sym p ∙ q))

pub same_why : {v : Verdict} {why other : Refusal} → v ≡ Err why → v ≡ Err other → why ≡ other
same_why p q = ap why_of (sym p ∙ q)

pub then_last : (v : Verdict) → then v (Ok tt) ≡ v
then_last (Ok tt) = refl
then_last (Err why) = refl
