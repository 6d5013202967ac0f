-- `grid::is_multiple` meets its contract: the bits of a float that is no NaN are that float's. Assumes nothing.
use mathlib.Core.Path.{ap, ◌∙◌}
use lib.Ieee.{binary32}
use lib.Ieee.Scale.{finite}
use lib.Ieee.Bits.{of_bits-to_bits}
use denote.Floats.{passes}
use Rattle.grid.specs.Grid.{on_grid}
use Rattle.grid.proofs.is_multiple.Goals as goal

pub returns : goal.returns
returns c h =
    let s = c.settled in
    let e = of_bits-to_bits binary32 s.result (passes _ s.type_inv) in
    let r = s.ensures.1 h in
    c.bits_are_multiple.ensures (ap finite e ∙ r.0) ∙ ap on_grid e ∙ r.1
