use Rattle.table_file.proofs.Placing as placing
use Rattle.table_file.proofs.laws.one_place.Goals as goal

pub returns : goal.returns
returns c = placing.one_place
