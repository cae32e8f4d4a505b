use Rattle.flsm_model.proofs.contents.MapBase.{map_holds}
use Rattle.flsm_model.proofs.contents.MapList.{map_shows}
use Rattle.flsm_model.proofs.laws.law_map.Goals as goal

pub returns : goal.returns
returns c = record { puts = map_holds; rows = map_shows }
