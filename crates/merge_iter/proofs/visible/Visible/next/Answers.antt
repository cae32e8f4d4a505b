use Rattle.std.proofs.Common.{[], ◌∷◌, ◌++◌, sym, ap, ◌∙◌, subst}
use Rattle.peb_base.specs.Cursors.{next_place, place_in, LeadsTo}
use Rattle.merge_iter.specs.Seeing.{IsAhead, visible}
use Rattle.merge_iter.specs.VisibleViews.{SeesIn}
use Rattle.merge_iter.proofs.Beginning.{next_ahead}
use Rattle.merge_iter.proofs.Showing.{passed_shown}
use Rattle.merge_iter.proofs.visible.Visible.next.Goals as goal

pub returns-clause-goes : goal.returns-clause-goes
returns-clause-goes g c = λ es place s.
    let old = c.args.self.now in
    let kept = c.keep_key.ensures in
    let on = next_ahead g.C.Cursor g.met.C.Cursor.among old.number old.key old.inner es place s in
    subst (λ p. LeadsTo (SeesIn g.C.Cursor c.settle.new.self es) p c.settle.result)
    (ap (λ v. place_in (visible v.number es) on.0) kept ∙ on.2)
    (c.settle.ensures.goes es (next_place es s.at) on.0
    (c.in_ok-next.ensures.goes es s.at (subst (λ v. g.C.Cursor.stands v.inner es s.at) (sym kept) s.stands))
    (subst (λ v. IsAhead v.number v.key es (next_place es s.at) on.0) (sym kept) on.1))

pub returns-clause-shown : goal.returns-clause-shown
returns-clause-shown g c = λ given e sees has.
    let old = c.args.self.now in
    c.settle.ensures.shown (given ++ e ∷ [])
    (passed_shown g.C.Cursor old c.keep_key.new.self c.next.new.self given e c.keep_key.ensures has sees
    c.in_ok-next.ensures.walks)
