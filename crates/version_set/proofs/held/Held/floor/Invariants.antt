use Rattle.std.proofs.Common.{◌≡◌, drop}
use Rattle.flsm_model.specs.Jobs.{floor_of}
use Rattle.version_set.proofs.held.Held.floor.Given as goal

abbrev pub invariant-loop-pair : goal.invariant-loop-pair
invariant-loop-pair l = floor_of (drop l.pair-index l.pair-items) l.floor ≡ floor_of l.pair-items l.fn.last
