use Rattle.std.proofs.Common.{◌≡◌, ◌≤◌, length, drop}
use Rattle.flsm_model.specs.Ranges.{with_keys}
use Rattle.flsm_model.proofs.merging.with_keys.Given as goal

abbrev pub invariant-loop-left : goal.invariant-loop-left
invariant-loop-left l = (l.left ≤ length l.keys) × (l.merged.items ≡ with_keys (drop l.left l.keys) l.guards)

abbrev pub decreases-loop-left : goal.decreases-loop-left
decreases-loop-left l = l.left
