-- `line_fits` meets its contract: on the grid the floats compare as the sixty-fourths do.
use Rattle.std.proofs.Common.{sym, ap, ◌∙◌, subst}
use native.Mathlib.Nat.{zero-lt-suc}
use Rattle.grid.specs.Values.{Length}
use Rattle.grid.proofs.Exact.{le_at}
use Rattle.grid.proofs.Meaning.{at_of_grid}
use Rattle.keywords.specs.declared.AvailableSpace.{AvailableSpace}
use Rattle.break_greedy.specs.Breaking.{limit_of, fits}
use Rattle.break_greedy.specs.Steps.{LengthLimit}
use Rattle.break_greedy.proofs.line_fits.Goals as goal

pub returns-in-Definite : goal.returns-in-Definite
unfolding fits limit_of
returns-in-Definite c = λ z p.
    let x = c.in-Definite.x in
    let e = c.in-Definite.is in
    let l : Length x = subst LengthLimit e c.requires in
    le_at 64 (zero-lt-suc 63) p (at_of_grid x l.grid) ∙ sym (ap (λ (a : AvailableSpace). fits (limit_of a) z) e)

pub returns-in-MinContent : goal.returns-in-MinContent
unfolding fits limit_of
returns-in-MinContent c = λ z p. sym (ap (λ (a : AvailableSpace). fits (limit_of a) z) c.in-MinContent.is)

pub returns-in-MaxContent : goal.returns-in-MaxContent
unfolding fits limit_of
returns-in-MaxContent c = λ z p. sym (ap (λ (a : AvailableSpace). fits (limit_of a) z) c.in-MaxContent.is)
