-- The contract of the break limit leaves no choice: any two results that it allows are equal. It is one equation. Assumes nothing.
use mathlib.Core.Path.{◌≡◌, sym, ◌∙◌}
use Rattle.break_limit.specs.declared.Query.{Query}
use Rattle.break_limit.specs.Limit.{BreakLimit, limit_call}

pub one-limit : (q : Query) (r s : BreakLimit) → r ≡ limit_call q → s ≡ limit_call q → r ≡ s
one-limit q r s p e = p ∙ sym e
