use Rattle.table_file.proofs.Holding.{written_holds, opened_holds}
use Rattle.table_file.proofs.laws.law_holds.Goals as goal

pub returns-clause-written : goal.returns-clause-written
returns-clause-written g c = written_holds g.F.TableHandle

pub returns-clause-opened : goal.returns-clause-opened
returns-clause-opened g c = opened_holds c.block_grows.ensures c.law_filter.ensures.long g.F.TableHandle
