use Rattle.flsm_model.proofs.picking.Picks.{free_by_claims}
use Rattle.flsm_model.proofs.laws.law_claims.Goals as goal

pub returns : goal.returns
returns c = free_by_claims
