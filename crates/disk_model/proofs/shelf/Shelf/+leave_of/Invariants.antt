use Rattle.std.proofs.Common.{length}
use Rattle.disk_model.proofs.shelf.Shelf.+leave_of.Given as goal

abbrev pub decreases-leave_of : goal.decreases-leave_of
decreases-leave_of l = length l.tables.now
