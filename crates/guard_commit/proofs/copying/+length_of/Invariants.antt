use Rattle.std.proofs.Common.{length}
use Rattle.guard_commit.proofs.copying.+length_of.Given as goal

abbrev pub decreases-length_of : goal.decreases-length_of
decreases-length_of g l = length l.tables.now
