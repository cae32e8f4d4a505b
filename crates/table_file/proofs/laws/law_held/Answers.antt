use Rattle.table_file.proofs.Holding.{keys_held}
use Rattle.table_file.proofs.laws.law_held.Goals as goal

pub returns : goal.returns
returns g c = keys_held c.law_filter.ensures.all g.F.TableHandle
