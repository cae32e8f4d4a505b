use Rattle.std.proofs.Common.{length, ◌-◌, ◌≤◌}
use Rattle.disk_real.proofs.file_at.write_counted.Given as goal

-- no more was written than there is
abbrev pub invariant-loop-count : goal.invariant-loop-count
invariant-loop-count g l = l.count ≤ length l.bytes

abbrev pub decreases-loop-count : goal.decreases-loop-count
decreases-loop-count g l = length l.bytes - l.count
