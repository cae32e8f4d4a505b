use Rattle.table_file.proofs.CutOnce.{blocks_are_cut, one_cut}
use Rattle.table_file.proofs.laws.law_cut.Goals as goal

pub returns-clause-cut : goal.returns-clause-cut
returns-clause-cut c = blocks_are_cut

pub returns-clause-only : goal.returns-clause-only
returns-clause-only c = one_cut
