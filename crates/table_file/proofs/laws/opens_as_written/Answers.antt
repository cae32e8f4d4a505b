use Rattle.table_file.proofs.Reopened as reopened
use Rattle.table_file.proofs.laws.opens_as_written.Goals as goal

pub returns : goal.returns
returns c = reopened.opens_as_written c.block_grows.ensures c.law_filter.ensures.long
