use Rattle.std.proofs.Common.{length}
use Rattle.version_set.proofs.tests.+ends_meet.Given as goal

abbrev pub decreases-ends_meet : goal.decreases-ends_meet
decreases-ends_meet l = length l.keys.now
