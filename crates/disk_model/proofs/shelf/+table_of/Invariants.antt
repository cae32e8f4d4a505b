use Rattle.std.proofs.Common.{length}
use Rattle.disk_model.proofs.shelf.+table_of.Given as goal

abbrev pub decreases-table_of : goal.decreases-table_of
decreases-table_of l = length l.tables.now
