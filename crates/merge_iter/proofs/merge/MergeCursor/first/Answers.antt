use Rattle.std.proofs.Common.{[], None, false}
use Rattle.peb_base.specs.Cursors.{first_place}
use Rattle.merge_iter.specs.Moves.{Moved, Of}
use Rattle.merge_iter.specs.Views.{merged_of}
use Rattle.merge_iter.specs.Walking.{WentOver, WentThrough}
use Rattle.merge_iter.specs.declared.step.Step.TheVariants as steps
use Rattle.merge_iter.proofs.Landing.{leads, on_ok}
use Rattle.merge_iter.proofs.Leading.{first_stands}
use Rattle.merge_iter.proofs.Walked.{begins, begins_walk}
use Rattle.merge_iter.proofs.merge.MergeCursor.first.Goals as goal

pub returns-clause-goes : goal.returns-clause-goes
returns-clause-goes g c = λ es place s.
    let old = merged_of c.args.self.now in
    let new = merged_of c.go.new.self in
    leads g.C.Cursor (Of (Moved g.C.Cursor steps.First) None) false old new g.met.C.Cursor.among es place
    s (first_place es) (first_stands g.C.Cursor g.met.C.Cursor.among old new es place s) c.go.result
    c.go.ensures.landed

pub returns-clause-gives : goal.returns-clause-gives
returns-clause-gives g c =
    let old = merged_of c.args.self.now in
    let new = merged_of c.go.new.self in
    on_ok g.C.Cursor (Of (Moved g.C.Cursor steps.First) None) false old new (WentThrough g.C.Cursor new [])
    (begins g.C.Cursor old new) c.go.result c.go.ensures.landed

pub returns-clause-walks : goal.returns-clause-walks
returns-clause-walks g c =
    let old = merged_of c.args.self.now in
    let new = merged_of c.go.new.self in
    on_ok g.C.Cursor (Of (Moved g.C.Cursor steps.First) None) false old new (WentOver g.C.Cursor new [])
    (λ m is chosen. begins_walk g.C.Cursor new (begins g.C.Cursor old new m is chosen)) c.go.result
    c.go.ensures.landed
