use Rattle.std.proofs.Common.{subst}
use Rattle.peb_base.specs.Cursors.{LeadsTo}
use Rattle.merge_iter.specs.VisibleViews.{SeesIn}
use Rattle.merge_iter.proofs.Turning.{prev_back}
use Rattle.merge_iter.proofs.visible.Visible.prev.Goals as goal

pub returns-clause-goes : goal.returns-clause-goes
returns-clause-goes g c = λ es place s.
    let old = c.args.self.now in
    let back = prev_back g.C.Cursor g.met.C.Cursor.among old.number old.inner es place s in
    subst (λ p. LeadsTo (SeesIn g.C.Cursor c.settle_back.new.self es) p c.settle_back.result) back.2
    (c.settle_back.ensures.goes es back.0
    (subst (g.C.Cursor.stands c.prev.new.self es) back.1 (c.in_ok-prev.ensures.goes es s.at s.stands)))
