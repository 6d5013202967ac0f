-- `place_size_call::size_line` meets its contract: a passed shape says that the lists are of one length. Assumes nothing.
use Rattle.place_size.specs.Lists.{lists_of}
use Rattle.place_size_call.proofs.SizeCalled.{size_even}
use Rattle.place_size_call.proofs.size_line.Goals as goal

pub check_size_numbers-requires : goal.check_size_numbers-requires
check_size_numbers-requires c = size_even (lists_of c.args.items) c.in_ok-check_size_shape.ensures

pub calculate_cross_size-requires : goal.calculate_cross_size-requires
calculate_cross_size-requires c = size_even (lists_of c.args.items) c.in_ok-check_size_shape.ensures
