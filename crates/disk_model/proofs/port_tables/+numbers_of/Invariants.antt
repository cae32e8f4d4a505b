use Rattle.std.proofs.Common.{length}
use Rattle.disk_model.proofs.port_tables.+numbers_of.Given as goal

abbrev pub decreases-numbers_of : goal.decreases-numbers_of
decreases-numbers_of l = length l.tables.now
