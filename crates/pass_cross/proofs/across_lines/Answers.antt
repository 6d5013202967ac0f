-- The lists are the columns of the cross axis. Assumes nothing.
use Rattle.std.proofs.Common.{ap, ◌∙◌}
use Rattle.keywords.specs.Wrapping.{is_reversed}
use Rattle.pass_cross.proofs.CrossLaws.{across_ready_as, across_as}
use Rattle.pass_cross.proofs.across_lines.Goals as goal

pub across_by_line-requires : goal.across_by_line-requires
across_by_line-requires c = let a = c.args in
    let e = c.across.ensures in
    across_ready_as c.requires.0 a.line_sizes.now a.sizes.now a.starts.now a.ends.now a.offsets.now e.cross e.alignment e.auto_size c.requires.1 c.requires.2 c.requires.3 c.requires.4 c.requires.5

pub returns : goal.returns
returns c = let e = c.across.ensures in across_as (c.is_reversed.ensures ∙ ap is_reversed c.wrap_of.ensures) e.cross e.alignment e.auto_size c.across_by_line.ensures
