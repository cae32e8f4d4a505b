use Rattle.merge_iter.specs.Views.{merged_of, back_of}
use Rattle.merge_iter.proofs.Falling.{WentTo}
use Rattle.merge_iter.proofs.merge.Merge.fall_to.Given as goal

abbrev pub invariant-loop-self : goal.invariant-loop-self
invariant-loop-self g l = WentTo g.C.Cursor l.fn.key l.fn.number (merged_of l.fn.self) (merged_of l.self)

abbrev pub decreases-loop-self : goal.decreases-loop-self
decreases-loop-self g l = back_of g.C.Cursor (merged_of l.self)
