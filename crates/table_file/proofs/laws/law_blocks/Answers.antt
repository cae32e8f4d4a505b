use Rattle.table_file.proofs.Parting.{parts_cut}
use Rattle.table_file.proofs.Written.{are_blocks}
use Rattle.table_file.proofs.laws.law_blocks.Goals as goal

pub returns-clause-joined : goal.returns-clause-joined
returns-clause-joined c = λ full es some most sorted. (parts_cut full es).whole

pub returns-clause-blocks : goal.returns-clause-blocks
returns-clause-blocks c = are_blocks c.block_grows.ensures
