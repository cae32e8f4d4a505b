use Rattle.std.proofs.Common.{ap, None, false}
use Rattle.peb_base.specs.Cursors.{place_from}
use Rattle.merge_iter.specs.Landed.{Landed}
use Rattle.merge_iter.specs.Moves.{Sought, Of}
use Rattle.merge_iter.specs.Views.{merged_of}
use Rattle.merge_iter.proofs.Counting.{counts, damage, keeps_each, remain}
use Rattle.merge_iter.proofs.Landing.{lands, leads}
use Rattle.merge_iter.proofs.Leading.{seek_stands}
use Rattle.merge_iter.proofs.Seeking.{shows_behind}
use Rattle.merge_iter.proofs.Telling.{tells, has_chosen}
use Rattle.merge_iter.proofs.merge.MergeCursor.seek.Goals as goal
use Rattle.merge_iter.proofs.merge.MergeCursor.seek.Goals.{After-settle}

landed : (g : _) (c : After-settle g)
    → Landed g.C.Cursor (Of (Sought g.C.Cursor c.args.key.now c.args.number) None) false
    (merged_of c.args.self.now) (merged_of c.settle.new.self) c.settle.result
landed g c =
    lands g.C.Cursor (Of (Sought g.C.Cursor c.args.key.now c.args.number) None) false
    (merged_of c.args.self.now) (merged_of c.settle.new.self) c.seek_all-moved.new.inputs.items
    c.seek_all-moved.result c.settle.result c.seek_all-moved.ensures
    (ap (λ v. v.items) c.settle.ensures.inputs) c.settle.ensures.answer c.settle.ensures.chosen
    c.settle.ensures.direction c.settle.ensures.nothing

pub returns-clause-goes : goal.returns-clause-goes
returns-clause-goes g c = λ es place s.
    let old = merged_of c.args.self.now in
    let new = merged_of c.settle.new.self in
    let key = c.args.key.now in
    leads g.C.Cursor (Of (Sought g.C.Cursor key c.args.number) None) false old new g.met.C.Cursor.among es
    place s (place_from key c.args.number es)
    (seek_stands g.C.Cursor g.met.C.Cursor.among old new es place s key c.args.number) c.settle.result
    (landed g c)

pub returns-clause-behind : goal.returns-clause-behind
returns-clause-behind g c =
    shows_behind g.C.Cursor c.args.key.now c.args.number (merged_of c.args.self.now)
    (merged_of c.settle.new.self) c.settle.result (landed g c)

pub returns-clause-counts : goal.returns-clause-counts
returns-clause-counts g c =
    counts g.C.Cursor g.met.C.Cursor.kept (Sought g.C.Cursor c.args.key.now c.args.number)
    (λ a b m. m.remains) None c.args.self.now.inputs.items c.settle.new.self.inputs.items c.settle.result
    (landed g c).went

pub returns-clause-damage : goal.returns-clause-damage
returns-clause-damage g c =
    damage g.C.Cursor g.met.C.Cursor.kept (Sought g.C.Cursor c.args.key.now c.args.number)
    (λ a b m. m.remains) None c.args.self.now.inputs.items c.settle.new.self.inputs.items c.settle.result
    (landed g c).went

pub returns-clause-keeps : goal.returns-clause-keeps
returns-clause-keeps g c =
    keeps_each g.C.Cursor c.args.self.now.inputs.items c.settle.new.self.inputs.items
    (remain g.C.Cursor g.met.C.Cursor.kept (Sought g.C.Cursor c.args.key.now c.args.number)
    (λ a b m. m.remains) None c.args.self.now.inputs.items c.settle.new.self.inputs.items c.settle.result
    (landed g c).went)

pub returns-clause-chosen : goal.returns-clause-chosen
returns-clause-chosen g c =
    has_chosen g.C.Cursor (Of (Sought g.C.Cursor c.args.key.now c.args.number) None) false
    (merged_of c.args.self.now) (merged_of c.settle.new.self) c.settle.result (landed g c)

pub returns-clause-told : goal.returns-clause-told
returns-clause-told g c =
    tells g.C.Cursor (Sought g.C.Cursor c.args.key.now c.args.number) (λ a b m. m.refused)
    None c.args.self.now.inputs.items c.settle.new.self.inputs.items c.settle.result
    (landed g c).went
