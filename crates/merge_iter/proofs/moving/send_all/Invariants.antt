use Rattle.merge_iter.specs.Moves.{Moved}
use Rattle.merge_iter.proofs.Sending.{Begun}
use Rattle.merge_iter.proofs.moving.send_all.Given as goal

abbrev pub invariant-loop-k : goal.invariant-loop-k
invariant-loop-k g l = Begun (Moved g.C.Cursor l.fn.step) l.fn.inputs.items l.inputs.items l.k
