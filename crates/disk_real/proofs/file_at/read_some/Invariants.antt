use Rattle.std.proofs.Common.{length, ◌≡◌}
use Rattle.std.specs.Io.KnownBytes.{Keeps}
use Rattle.disk_real.proofs.file_at.read_some.Given as goal

-- a read that a signal came between took nothing
abbrev pub invariant-loop : goal.invariant-loop
invariant-loop g l = (length l.out ≡ length l.initial.out) × Keeps (g.F.Read.remaining l.initial.file) (g.F.Read.remaining l.file)
