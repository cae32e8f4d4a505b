use Rattle.flsm_model.proofs.contents.Tables.{tables_stand}
use Rattle.flsm_model.proofs.laws.law_tables.Goals as goal

pub returns : goal.returns
returns c = tables_stand
