use Rattle.flsm_model.proofs.picking.Lawful.{picked_is_lawful}
use Rattle.flsm_model.proofs.laws.law_due.Goals as goal

pub returns : goal.returns
returns c = picked_is_lawful
