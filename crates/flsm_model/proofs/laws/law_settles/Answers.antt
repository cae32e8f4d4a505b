use Rattle.flsm_model.proofs.picking.Lawful.{picked_has_work}
use Rattle.flsm_model.proofs.histories.Settling.{edits_settle, number_falls}
use Rattle.flsm_model.proofs.contents.Conserved.{outcomes_conserve}
use Rattle.flsm_model.proofs.histories.Lessening.{outcomes_settle}
use Rattle.flsm_model.proofs.picking.PicksSettle.{picked_settles}
use Rattle.flsm_model.proofs.laws.law_settles.Goals as goal

pub returns : goal.returns
returns c = record { edits = edits_settle; number = number_falls; outcomes = outcomes_conserve; less = outcomes_settle; picked = picked_settles; work = picked_has_work }
