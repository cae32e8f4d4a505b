use Rattle.std.proofs.Common.{ap}
use Rattle.merge_iter.specs.Landed.{Landed}
use Rattle.merge_iter.specs.Moves.{Moved, Of}
use Rattle.merge_iter.specs.Views.{merged_of}
use Rattle.merge_iter.proofs.Counting.{counts, damage, keeps_each, remain}
use Rattle.merge_iter.proofs.Landing.{lands}
use Rattle.merge_iter.proofs.Telling.{tells, has_chosen}
use Rattle.merge_iter.proofs.merge.Merge.go.Goals as goal
use Rattle.merge_iter.proofs.merge.Merge.go.Goals.{After-settle}

landed : (g : _) (c : After-settle g)
    → Landed g.C.Cursor (Of (Moved g.C.Cursor c.args.step) c.args.only) c.args.is_back
    (merged_of c.args.self.now) (merged_of c.settle.new.self) c.settle.result
landed g c =
    lands g.C.Cursor (Of (Moved g.C.Cursor c.args.step) c.args.only) c.args.is_back
    (merged_of c.args.self.now) (merged_of c.settle.new.self) c.send-moved.new.inputs.items
    c.send-moved.result c.settle.result c.send-moved.ensures
    (ap (λ v. v.items) c.settle.ensures.inputs) c.settle.ensures.answer c.settle.ensures.chosen
    c.settle.ensures.direction c.settle.ensures.nothing

pub returns-clause-landed : goal.returns-clause-landed
returns-clause-landed g c = landed g c

pub returns-clause-counts : goal.returns-clause-counts
returns-clause-counts g c =
    counts g.C.Cursor g.met.C.Cursor.kept (Moved g.C.Cursor c.args.step) (λ a b m. m.remains)
    c.args.only c.args.self.now.inputs.items c.settle.new.self.inputs.items c.settle.result
    (landed g c).went

pub returns-clause-damage : goal.returns-clause-damage
returns-clause-damage g c =
    damage g.C.Cursor g.met.C.Cursor.kept (Moved g.C.Cursor c.args.step) (λ a b m. m.remains)
    c.args.only c.args.self.now.inputs.items c.settle.new.self.inputs.items c.settle.result
    (landed g c).went

pub returns-clause-keeps : goal.returns-clause-keeps
returns-clause-keeps g c =
    keeps_each g.C.Cursor c.args.self.now.inputs.items c.settle.new.self.inputs.items
    (remain g.C.Cursor g.met.C.Cursor.kept (Moved g.C.Cursor c.args.step) (λ a b m. m.remains)
    c.args.only c.args.self.now.inputs.items c.settle.new.self.inputs.items c.settle.result
    (landed g c).went)

pub returns-clause-chosen : goal.returns-clause-chosen
returns-clause-chosen g c =
    has_chosen g.C.Cursor (Of (Moved g.C.Cursor c.args.step) c.args.only) c.args.is_back
    (merged_of c.args.self.now) (merged_of c.settle.new.self) c.settle.result (landed g c)

pub returns-clause-told : goal.returns-clause-told
returns-clause-told g c =
    tells g.C.Cursor (Moved g.C.Cursor c.args.step) (λ a b m. m.refused)
    c.args.only c.args.self.now.inputs.items c.settle.new.self.inputs.items c.settle.result
    (landed g c).went
