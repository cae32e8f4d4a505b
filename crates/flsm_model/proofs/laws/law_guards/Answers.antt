use Rattle.flsm_model.proofs.histories.Whole.{place_in_guards}
use Rattle.flsm_model.proofs.histories.Committed.{always_cut}
use Rattle.flsm_model.proofs.laws.law_guards.Goals as goal

pub returns : goal.returns
returns c = record { placed = place_in_guards; cut = always_cut }
