use Rattle.std.proofs.Common.{length}
use Rattle.guard_commit.proofs.writing.+cut_tables.Given as goal

abbrev pub decreases-cut_tables : goal.decreases-cut_tables
decreases-cut_tables g l = length l.tables.now
