use Rattle.std.proofs.Common.{length}
use Rattle.disk_model.proofs.mem_scripts.+find.Given as goal

abbrev pub decreases-find : goal.decreases-find
decreases-find l = length l.scripts.now
