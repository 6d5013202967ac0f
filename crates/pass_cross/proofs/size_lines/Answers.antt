-- The lists are the columns of the cross axis. Assumes nothing.
use Rattle.pass_cross.proofs.CrossLaws.{sizes_ready_as, sizes_as}
use Rattle.pass_cross.proofs.size_lines.Goals as goal

pub cross_sizes-requires : goal.cross_sizes-requires
cross_sizes-requires c = sizes_ready_as c.requires.0 c.args.sizes.now c.cross.ensures c.requires.1

pub returns : goal.returns
returns c = sizes_as c.args.counts.now c.args.sizes.now c.cross_axis.ensures c.cross.ensures c.cross_sizes.ensures
