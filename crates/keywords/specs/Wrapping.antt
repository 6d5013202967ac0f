-- Document 01, "Breaking": the wrap modes by their codes, and how lines break under each. Assumes nothing.
use Rattle.std.specs.Prelude.{Bool, true, false, List, [], ◌∷◌, ℕ, get_or}
use Rattle.keywords.specs.declared.Wrap.{Wrap}
use Rattle.keywords.specs.declared.Wrap.TheVariants as wrap
use Rattle.keywords.specs.declared.Mode.{Mode}
use Rattle.keywords.specs.declared.Mode.TheVariants.{Single, Greedy, Balanced}

abbrev pub wraps : List Wrap
wraps = wrap.NoWrap ∷ wrap.Wrap ∷ wrap.WrapReverse ∷ wrap.Balance ∷ wrap.BalanceReverse ∷ []

-- codes 0 to 4. Any other is refused with 5; it reads as nowrap, so that it asks for no work cells before
abbrev pub wrap_of : ℕ → Wrap
wrap_of c = get_or wraps c wrap.NoWrap

-- how a container breaks its lines; reversed wrapping breaks as wrapping does
abbrev pub mode_of : Wrap → Mode
mode_of wrap.NoWrap = Single
mode_of wrap.Wrap = Greedy
mode_of wrap.WrapReverse = Greedy
mode_of wrap.Balance = Balanced
mode_of wrap.BalanceReverse = Balanced

abbrev pub is_single_line : Wrap → Bool
is_single_line wrap.NoWrap = true
is_single_line wrap.Wrap = false
is_single_line wrap.WrapReverse = false
is_single_line wrap.Balance = false
is_single_line wrap.BalanceReverse = false

-- a single-line container is never reversed
abbrev pub is_reversed : Wrap → Bool
is_reversed wrap.NoWrap = false
is_reversed wrap.Wrap = false
is_reversed wrap.WrapReverse = true
is_reversed wrap.Balance = false
is_reversed wrap.BalanceReverse = true
