-- The room that breaking by wrap mode asks for. Only contracts of parts cite it. Assumes nothing.
use Rattle.std.specs.Prelude.{ℕ, ◌≤◌, length}
use Rattle.balance.specs.Calls.{BreakLent}
use Rattle.balance.specs.Parts.{Roomy}
use Rattle.keywords.specs.declared.Mode.{Mode}
use Rattle.keywords.specs.declared.Mode.TheVariants.{Single, Greedy, Balanced}

-- n cells for the counts, and where lines are balanced the work cells too
abbrev pub WrapRoom : Mode → ℕ → BreakLent → Type 0
WrapRoom Single n l = n ≤ length l.counts
WrapRoom Greedy n l = n ≤ length l.counts
WrapRoom Balanced n l = Roomy n l
