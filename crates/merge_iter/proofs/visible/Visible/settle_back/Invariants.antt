use Rattle.merge_iter.proofs.Turning.{WentBackTo}
use Rattle.merge_iter.proofs.visible.Visible.settle_back.Given as goal

abbrev pub invariant-loop-found : goal.invariant-loop-found
invariant-loop-found g l = WentBackTo g.C.Cursor l.fn.self l.self l.found

abbrev pub decreases-loop-found : goal.decreases-loop-found
decreases-loop-found g l = g.C.Cursor.back l.self.inner
