use Rattle.std.proofs.Common.{true, not, ap}
use Rattle.peb_base.specs.Cursors.{previous_place}
use Rattle.merge_iter.specs.Views.{merged_of}
use Rattle.merge_iter.proofs.Leading.{previous_is}
use Rattle.merge_iter.proofs.Stepping.{only_inside, never_nothing, step_goes, step_fewer, back_falls, turned_back, stays_back}
use Rattle.merge_iter.proofs.merge.Merge.step_back.Goals as goal

pub go-requires : goal.go-requires
go-requires g c =
    let old = merged_of c.args.self.now in
    only_inside g.C.Cursor old c.in-Some.place (not old.is_back) c.moved_input-only.result
    c.args.self.now.chosen c.in-Some.is c.moved_input-only.ensures

pub returns-clause-goes : goal.returns-clause-goes
returns-clause-goes g c = λ es place s.
    let old = merged_of c.args.self.now in
    step_goes g.C.Cursor old (merged_of c.go.new.self) c.args.self.now.chosen c.in-Some.place c.in-Some.is
    true (not old.is_back) c.moved_input-only.result c.moved_input-only.ensures c.go.result
    c.go.ensures.landed g.met.C.Cursor.among (turned_back old.is_back) (stays_back old.is_back) es place
    (previous_place place) (previous_is es place) s

pub returns-clause-falls : goal.returns-clause-falls
returns-clause-falls g c = λ e f was shown now.
    back_falls g.C.Cursor (merged_of c.args.self.now) (merged_of c.go.new.self) c.args.self.now.chosen
    c.in-Some.place c.in-Some.is c.moved_input-only.result c.moved_input-only.ensures was c.go.result
    c.go.ensures.landed e f shown now

pub returns-clause-fewer : goal.returns-clause-fewer
returns-clause-fewer g c = λ e shown.
    let old = merged_of c.args.self.now in
    step_fewer g.C.Cursor old (merged_of c.go.new.self) c.args.self.now.chosen c.in-Some.place c.in-Some.is
    true (not old.is_back) c.moved_input-only.result c.moved_input-only.ensures c.go.result
    c.go.ensures.landed g.met.C.Cursor.bounded g.met.C.Cursor.kept_size
    (not (merged_of c.go.new.self).is_back) (λ is. ap not is)

pub returns-clause-stays : goal.returns-clause-stays
returns-clause-stays g c = λ none.
    absurd (never_nothing g.C.Cursor (merged_of c.args.self.now) (merged_of c.go.new.self)
    c.args.self.now.chosen c.in-Some.place c.in-Some.is none)

pub returns-clause-still : goal.returns-clause-still
returns-clause-still g c = λ none.
    absurd (never_nothing g.C.Cursor (merged_of c.args.self.now) (merged_of c.go.new.self)
    c.args.self.now.chosen c.in-Some.place c.in-Some.is none)
