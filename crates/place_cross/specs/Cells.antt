-- The lists that the answers for a line's items are written to, before and after. Assumes nothing.
use Rattle.std.specs.Prelude.{◌≡◌}
use Rattle.place_cross.specs.declared.AcrossCells.{AcrossCells}

-- the lists are the ones that were lent, whatever their cells are now
pub record SameCells (before after : AcrossCells) : Type 0 where
  pub sizes : after.sizes.ghost_name ≡ before.sizes.ghost_name
  pub starts : after.used_start.ghost_name ≡ before.used_start.ghost_name
  pub ends : after.used_end.ghost_name ≡ before.used_end.ghost_name
  pub offsets : after.offsets.ghost_name ≡ before.offsets.ghost_name
