-- The mark of a number that may be absent: where it is given, its own; else none. Assumes nothing.
use mathlib.Core.Path.{sym, ap, ◌∙◌}
use mathlib.Core.Bool.{Bool}
use Rattle.checks.specs.Domain.{float}
use Rattle.checks.specs.Marks.{least_of}
use Rattle.checks.specs.Optional.{optional}
use Rattle.checks.proofs.Checks.{least_one}
use Rattle.checks_number.proofs.mark_given.Goals as goal

pub returns-then-given : goal.returns-then-given
returns-then-given c =
    let s = c in
    c.mark_float.ensures ∙ sym (least_one (float s.args.kind s.args.x) s.args.place s.requires) ∙ ap (λ (b : Bool). least_of (optional b (float s.args.kind s.args.x)) s.args.place) (sym c.if-given.true)

pub returns-else-given : goal.returns-else-given
unfolding least_of
returns-else-given c =
    let s = c in
    c.no_mark.ensures ∙ ap (λ (b : Bool). least_of (optional b (float s.args.kind s.args.x)) s.args.place) (sym c.if-given.false)
