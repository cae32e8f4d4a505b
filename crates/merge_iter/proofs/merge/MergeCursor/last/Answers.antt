use Rattle.std.proofs.Common.{None, true}
use Rattle.peb_base.specs.Cursors.{last_place}
use Rattle.merge_iter.specs.Moves.{Moved, Of}
use Rattle.merge_iter.specs.Views.{merged_of}
use Rattle.merge_iter.specs.declared.step.Step.TheVariants as steps
use Rattle.merge_iter.proofs.Landing.{leads}
use Rattle.merge_iter.proofs.Leading.{last_stands}
use Rattle.merge_iter.proofs.merge.MergeCursor.last.Goals as goal

pub returns-clause-goes : goal.returns-clause-goes
returns-clause-goes g c = λ es place s.
    let old = merged_of c.args.self.now in
    let new = merged_of c.go.new.self in
    leads g.C.Cursor (Of (Moved g.C.Cursor steps.Last) None) true old new g.met.C.Cursor.among es place
    s (last_place es) (last_stands g.C.Cursor g.met.C.Cursor.among old new es place s) c.go.result
    c.go.ensures.landed
