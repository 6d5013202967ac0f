-- An item as it is read: the number that stands for no maximum is infinite, which computes. Assumes nothing.
use mathlib.Core.Path.{◌≡◌, refl}
use mathlib.Core.Bool.{false}
use lib.Ieee.{of_bits, binary32, inf}
use Rattle.flex_table.proofs.read_item.Goals as goal

infinite : of_bits binary32 2139095040 ≡ inf false
unfolding of_bits
infinite = refl

pub returns : goal.returns
returns c = let e = infinite in cc
