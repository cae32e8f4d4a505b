use Rattle.std.proofs.Common.{false, List, ℕ, [], ◌∷◌, ◌++◌}
use Rattle.peb_base.specs.Cursors.{next_place}
use Rattle.std.specs.Prelude.{OnOk}
use Rattle.peb_base.specs.declared.entry.Entry.{Entry}
use Rattle.merge_iter.specs.Walking.{IsCurrent, WentThrough}
use Rattle.merge_iter.specs.Views.{merged_of}
use Rattle.merge_iter.proofs.Leading.{next_is}
use Rattle.merge_iter.proofs.Stepping.{only_inside, never_nothing, step_goes, step_fewer, next_gives, next_walks}
use Rattle.merge_iter.proofs.merge.MergeCursor.next.Goals as goal
use Rattle.merge_iter.proofs.merge.MergeCursor.next.Goals.{After-go}

pub go-requires : goal.go-requires
go-requires g c =
    let old = merged_of c.args.self.now in
    only_inside g.C.Cursor old c.in-Some.place old.is_back c.moved_input-only.result
    c.args.self.now.chosen c.in-Some.is c.moved_input-only.ensures

pub returns-clause-goes : goal.returns-clause-goes
returns-clause-goes g c = λ es place s.
    let old = merged_of c.args.self.now in
    step_goes g.C.Cursor old (merged_of c.go.new.self) c.args.self.now.chosen c.in-Some.place c.in-Some.is
    false old.is_back c.moved_input-only.result c.moved_input-only.ensures c.go.result c.go.ensures.landed
    g.met.C.Cursor.among (λ t. t) (λ t. t) es place (next_place es place) (next_is es place) s

gives : (g : _) (c : After-go g)
    → OnOk c.go.result ((given : List (ℕ × Entry)) (t : ℕ × Entry)
    → IsCurrent g.C.Cursor (merged_of c.args.self.now) t
    → WentThrough g.C.Cursor (merged_of c.args.self.now) given
    → WentThrough g.C.Cursor (merged_of c.go.new.self) (given ++ t ∷ []))
gives g c =
    next_gives g.C.Cursor (merged_of c.args.self.now) (merged_of c.go.new.self) c.args.self.now.chosen
    c.in-Some.place c.in-Some.is g.met.C.Cursor.ascends c.moved_input-only.result
    c.moved_input-only.ensures c.go.result c.go.ensures.landed

pub returns-clause-gives : goal.returns-clause-gives
returns-clause-gives g c = gives g c

pub returns-clause-walks : goal.returns-clause-walks
returns-clause-walks g c =
    next_walks g.C.Cursor (merged_of c.args.self.now) (merged_of c.go.new.self) c.args.self.now.chosen
    c.in-Some.place c.in-Some.is c.go.result (gives g c)

pub returns-clause-fewer : goal.returns-clause-fewer
returns-clause-fewer g c = λ e shown.
    let old = merged_of c.args.self.now in
    step_fewer g.C.Cursor old (merged_of c.go.new.self) c.args.self.now.chosen c.in-Some.place c.in-Some.is
    false old.is_back c.moved_input-only.result c.moved_input-only.ensures c.go.result c.go.ensures.landed
    g.met.C.Cursor.bounded g.met.C.Cursor.kept_size (merged_of c.go.new.self).is_back (λ is. is)

pub returns-clause-stays : goal.returns-clause-stays
returns-clause-stays g c = λ none.
    absurd (never_nothing g.C.Cursor (merged_of c.args.self.now) (merged_of c.go.new.self)
    c.args.self.now.chosen c.in-Some.place c.in-Some.is none)

pub returns-clause-still : goal.returns-clause-still
returns-clause-still g c = λ none.
    absurd (never_nothing g.C.Cursor (merged_of c.args.self.now) (merged_of c.go.new.self)
    c.args.self.now.chosen c.in-Some.place c.in-Some.is none)
