-- The largest so far.
use Rattle.std.proofs.Common.{◌≡◌}
use Rattle.place_size.specs.CrossSize.{outer_size, largest, cross_item_at}
use Rattle.place_size.specs.Lists.{lists_of}
use Rattle.place_size.proofs.cross_size.largest_outer.Given as goal

abbrev pub invariant-loop-i : goal.invariant-loop-i
invariant-loop-i l = l.most ≡ largest (λ k. outer_size (cross_item_at (lists_of l.items) k)) l.i
