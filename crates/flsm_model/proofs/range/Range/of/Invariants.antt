use Rattle.std.proofs.Common.{◌≡◌, drop}
use Rattle.flsm_model.specs.Ranges.{range_after, range_of}
use Rattle.flsm_model.proofs.range.Range.of.Given as goal

abbrev pub invariant-loop-guard : goal.invariant-loop-guard
invariant-loop-guard l = range_after l.lo (drop l.guard-index l.guards) l.key ≡ range_of l.guards l.key
