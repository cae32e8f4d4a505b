use Rattle.flsm_model.proofs.histories.Whole.{empty_is_true, fronts_are_legal, histories_join}
use Rattle.flsm_model.proofs.laws.law_fronts.Goals as goal

pub returns : goal.returns
returns c = record { empty = empty_is_true; fronts = fronts_are_legal; joined = histories_join }
