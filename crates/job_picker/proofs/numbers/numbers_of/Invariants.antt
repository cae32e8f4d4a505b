use Rattle.std.proofs.Common.{◌≡◌, ◌≤◌, length, map, drop}
use Rattle.flsm_model.specs.Picking.{numbers_of}
use Rattle.job_picker.proofs.numbers.numbers_of.Given as goal

abbrev pub invariant-loop-left : goal.invariant-loop-left
invariant-loop-left g l = (l.left ≤ length l.tables) × (l.numbers.items ≡ numbers_of (map g.T.HasRow.the_row (drop l.left l.tables)))

abbrev pub decreases-loop-left : goal.decreases-loop-left
decreases-loop-left g l = l.left
