use Rattle.flsm_model.proofs.guards.ShapeLaw.{records_sound}
use Rattle.flsm_model.proofs.guards.NestLaw.{records_nested}
use Rattle.flsm_model.proofs.guards.BoundLaw.{records_bounded}
use Rattle.flsm_model.proofs.laws.law_shape.Goals as goal

pub returns-clause-sound : goal.returns-clause-sound
returns-clause-sound c = records_sound

pub returns-clause-nested : goal.returns-clause-nested
returns-clause-nested c = records_nested

pub returns-clause-bounded : goal.returns-clause-bounded
returns-clause-bounded c = records_bounded
