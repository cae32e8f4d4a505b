use Rattle.table_file.proofs.Openings as openings
use Rattle.table_file.proofs.laws.one_opening.Goals as goal

pub returns : goal.returns
returns c = openings.one_opening
