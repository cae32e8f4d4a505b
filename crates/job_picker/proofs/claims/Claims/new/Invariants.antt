use Rattle.std.proofs.Common.{◌≡◌, replicate, None}
use Rattle.job_picker.proofs.claims.Claims.new.Given as goal

abbrev pub invariant-loop : goal.invariant-loop
invariant-loop l = l.kept.items ≡ replicate l.counter None
