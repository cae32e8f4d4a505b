use Rattle.std.proofs.Common.{◌≡◌, true}
use Rattle.bloom.specs.Filter.{are_set}
use Rattle.bloom.proofs.probes.has_probes.Given as goal

abbrev pub invariant-loop-i : goal.invariant-loop-i
invariant-loop-i l = are_set l.i l.bytes l.hash ≡ true
