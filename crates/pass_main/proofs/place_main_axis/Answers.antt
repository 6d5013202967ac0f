-- The lists by the way are of the frame. Assumes nothing.
use Rattle.pass_main.proofs.place_main_axis.Goals as goal

pub place_by_way-requires : goal.place_by_way-requires
place_by_way-requires c = let few = c.requires.0.listed.few in record { main_stage_ready = c.requires; n_in_bounds = (few, few, few, few) }
