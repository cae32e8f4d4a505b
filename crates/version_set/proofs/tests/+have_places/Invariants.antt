use Rattle.std.proofs.Common.{length}
use Rattle.version_set.proofs.tests.+have_places.Given as goal

abbrev pub decreases-have_places : goal.decreases-have_places
decreases-have_places l = length l.tables.now
