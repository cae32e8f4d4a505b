use Rattle.std.proofs.Common.{length}
use Rattle.version_set.proofs.tests.+ascends.Given as goal

abbrev pub decreases-ascends : goal.decreases-ascends
decreases-ascends l = length l.keys.now
