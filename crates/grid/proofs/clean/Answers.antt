-- `grid::clean` meets its contract. Assumes nothing.
use mathlib.Core.Path.{◌∙◌, ap}
use denote.Floats.{passes}
use lib.Ieee.{Float, binary32, add}
use Rattle.grid.proofs.Meaning.{none_bits}
use Rattle.grid.proofs.Cleaned.{clean_add}
use Rattle.grid.proofs.clean.Goals as goal

pub returns : goal.returns
returns c = let x = c.args.x in ap (λ (z : Float). add binary32 x z) none_bits ∙ clean_add binary32 x (passes _ c.well_formed.0.1)
