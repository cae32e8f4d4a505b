use Rattle.merge_iter.specs.Moves.{Sought}
use Rattle.merge_iter.proofs.Sending.{Begun}
use Rattle.merge_iter.proofs.moving.seek_all.Given as goal

abbrev pub invariant-loop-k : goal.invariant-loop-k
invariant-loop-k g l = Begun (Sought g.C.Cursor l.fn.key l.fn.number) l.fn.inputs.items l.inputs.items l.k
