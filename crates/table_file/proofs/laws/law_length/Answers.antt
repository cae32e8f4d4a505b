use Rattle.table_file.proofs.Lengths.{length_is}
use Rattle.table_file.proofs.laws.law_length.Goals as goal

pub returns : goal.returns
returns c = length_is c.law_filter.ensures.long
