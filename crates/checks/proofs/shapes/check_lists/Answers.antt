use Rattle.std.proofs.Common.{◌∙◌}
use mathlib.Core.Path.{ap₂}
use mathlib.Core.Bool.{◌&&◌}
use Rattle.checks.specs.Domain.{shape}
use Rattle.checks.specs.Shapes.{alike}
use Rattle.checks.proofs.Marked.{roomy_and}
use Rattle.checks.proofs.shapes.check_lists.Goals as goal

pub returns : goal.returns
returns c =
    let lengths = c.args.lengths.now in
    c.check_shape.ensures
    ∙ ap₂ shape c.longest.ensures (ap₂ ◌&&◌ c.are_roomy.ensures c.are_alike.ensures ∙ roomy_and c.args.n c.args.rooms.now (alike c.args.n lengths))
