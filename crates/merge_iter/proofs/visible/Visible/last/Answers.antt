use Rattle.std.proofs.Common.{length, subst}
use Rattle.peb_base.specs.Cursors.{LeadsTo}
use Rattle.merge_iter.specs.VisibleViews.{SeesIn}
use Rattle.merge_iter.proofs.Turning.{last_is, last_back}
use Rattle.merge_iter.proofs.visible.Visible.last.Goals as goal

pub returns-clause-goes : goal.returns-clause-goes
returns-clause-goes g c = λ es place s.
    subst (λ p. LeadsTo (SeesIn g.C.Cursor c.settle_back.new.self es) p c.settle_back.result)
    (last_back c.args.self.now.number es)
    (c.settle_back.ensures.goes es (length es)
    (subst (g.C.Cursor.stands c.last.new.self es) (last_is es) (c.in_ok-last.ensures.goes es s.at s.stands)))
