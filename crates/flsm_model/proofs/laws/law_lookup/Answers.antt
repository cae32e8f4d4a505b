use Rattle.flsm_model.proofs.contents.Tables.{newest_is_shown, newest_is_in_map}
use Rattle.flsm_model.proofs.laws.law_lookup.Goals as goal

pub returns : goal.returns
returns c = record { shown = newest_is_shown; map = newest_is_in_map }
