use Rattle.merge_iter.proofs.Passing.{WentOnTo}
use Rattle.merge_iter.proofs.visible.Visible.settle.Given as goal

abbrev pub invariant-loop-self : goal.invariant-loop-self
invariant-loop-self g l = WentOnTo g.C.Cursor l.fn.self l.self

abbrev pub decreases-loop-self : goal.decreases-loop-self
decreases-loop-self g l = g.C.Cursor.ahead l.self.inner
