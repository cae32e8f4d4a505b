use Rattle.std.proofs.Common.{length, take, ◌-◌, ◌≡◌, ◌≤◌}
use Rattle.std.specs.Io.KnownBytes.{Consumes}
use Rattle.disk_real.proofs.file_at.read_on.Given as goal

-- the bytes read so far fit, and are those that the file told
abbrev pub invariant-loop-count : goal.invariant-loop-count
invariant-loop-count g l =
    (length l.out ≡ length l.initial.out) × (l.count ≤ length l.out) × Consumes (g.F.Read.remaining l.initial.file) (g.F.Read.remaining l.file) (take l.count l.out)

abbrev pub decreases-loop-count : goal.decreases-loop-count
decreases-loop-count g l = length l.out - l.count
