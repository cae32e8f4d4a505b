use Rattle.flsm_model.proofs.picking.Picks.{idle_has_room}
use Rattle.flsm_model.proofs.laws.law_idle.Goals as goal

pub returns : goal.returns
returns c = idle_has_room
