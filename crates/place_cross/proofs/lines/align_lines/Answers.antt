-- `place_cross::lines::align_lines` meets its contract: the steps of the definition, one after the other. Assumes nothing.
use Rattle.std.proofs.Common.{rules}
use Rattle.place_cross.specs.Lines.{line_gain, container_size, free_cross}
use Rattle.place_cross.proofs.lines.align_lines.Goals as goal

pub returns : goal.returns
unfolding line_gain container_size free_cross
returns c = search rules
