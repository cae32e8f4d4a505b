use Rattle.table_file.proofs.Written as written
use Rattle.table_file.proofs.laws.written_opens.Goals as goal

pub returns : goal.returns
returns c = written.written_opens c.block_grows.ensures c.law_filter.ensures.long
