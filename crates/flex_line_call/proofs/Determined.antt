-- The contract of the call for one line leaves no choice, as flexing a line leaves none. Assumes nothing.
use mathlib.Core.Path.{◌≡◌, sym, ap, ap₂, ◌∙◌}
use mathlib.Core.List.{List}
use lib.IntN.{ℤ}
use lib.Ieee.{Float}
use Rattle.grid.specs.declared.Sixtyfourths.{Sixtyfourths}
use Rattle.std.specs.declared.result.Result.TheVariants.{Ok, Err}
use Rattle.checks.specs.Domain.{Verdict}
use Rattle.checks.proofs.Verdicts.{not_both, same_why}
use Rattle.flex.specs.declared.Item.{Item}
use Rattle.flex.specs.Items.{Lists}
use Rattle.flex_line_call.specs.Call.{FlexAnswer, flexed, LineAnswered, FlexedLine}
use Rattle.flex.proofs.Determined.{same_answer}

units : (a b : Sixtyfourths) → a.0 ≡ b.0 → a ≡ b
units a b e = ap make e
  where
    make : ℤ → Sixtyfourths
    make z = record { 0 = z }

-- any two results that the contract allows are equal
pub one_answer : (v : Verdict) (inner gap : Float) (items : List Item) (old : List Float) (r s : FlexAnswer) (a b : List Float) → LineAnswered v inner gap items r old a → LineAnswered v inner gap items s old b → (r ≡ s) × (a ≡ b)
one_answer v inner gap items old (Err w) (Err x) a b p q = (ap Err (same_why p.0 q.0), p.1 ∙ sym q.1)
one_answer v inner gap items old (Err w) (Ok g) a b p q = absurd (not_both q.0 p.0)
one_answer v inner gap items old (Ok f) (Err w) a b p q = absurd (not_both p.0 q.0)
one_answer v inner gap items old (Ok f) (Ok g) a b p q =
    let e = same_answer inner gap items old p.1 q.1 in
    (ap₂ flexed (units f.free g.free e.0) e.1, e.2)

pub line_determined : (inner gap : Float) (ls : Lists) (old : List Float) (r s : FlexAnswer) (a b : List Float) → FlexedLine inner gap ls r old a → FlexedLine inner gap ls s old b → (r ≡ s) × (a ≡ b)
line_determined inner gap ls old r s a b p q = one_answer _ _ _ _ old r s a b p q
