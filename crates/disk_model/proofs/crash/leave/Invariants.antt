use Rattle.std.proofs.Common.{reverse, take}
use Rattle.disk_model.specs.Files.{image_of}
use Rattle.disk_model.specs.Crashes.{IsTaken}
use Rattle.disk_model.proofs.crash.leave.Given as goal

abbrev pub invariant-loop-call : goal.invariant-loop-call
invariant-loop-call l = IsTaken l.pick (image_of l.fn.first.items) (reverse (take l.call-index l.calls)) (image_of l.read.items) (image_of l.left.items)
