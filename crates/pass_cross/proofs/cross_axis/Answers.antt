-- Its numbers, read. Assumes nothing.
use Rattle.std.proofs.Common.{ap, ◌∙◌}
use Rattle.place_checks.specs.Numbers.{cross_of}
use Rattle.pass_cross.proofs.cross_axis.Goals as goal

pub returns : goal.returns
returns c = c.cross_of.ensures ∙ ap cross_of c.into.ensures
