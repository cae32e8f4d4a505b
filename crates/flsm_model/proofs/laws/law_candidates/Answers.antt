use Rattle.flsm_model.proofs.picking.Needs.{candidates-meet}
use Rattle.flsm_model.proofs.picking.Picks.{chosen_in_order, ascending_are_equal}
use Rattle.flsm_model.proofs.laws.law_candidates.Goals as goal

pub returns : goal.returns
returns c = record { meet = candidates-meet; ascend = chosen_in_order; equal = ascending_are_equal }
