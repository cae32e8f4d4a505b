use Rattle.std.proofs.Common.{◌≡◌, [], Some, false, rules, sym, subst}
use Rattle.peb_base.specs.Cursors.{place_in, previous_place, LeadsTo}
use Rattle.merge_iter.specs.Seeing.{IsAhead, IsBack, looks_back}
use Rattle.merge_iter.specs.VisibleViews.{SeesIn}
use Rattle.merge_iter.proofs.Turning.{turn_found, one_on}
use Rattle.merge_iter.proofs.visible.Visible.turn.Goals as goal

pub returns-clause-goes : goal.returns-clause-goes
returns-clause-goes g c = λ es r left s back stop.
    let old = c.args.self.now in
    let n = old.number in
    let shown = g.C.Cursor.shows old.inner in
    let on =
    turn_found g.C.Cursor g.met.C.Cursor.among n old.key old.inner es r left s
    (subst (IsBack n old.key es r left) c.if-not-found.false back)
    (subst (λ b. looks_back n old.key b shown ≡ false) c.if-not-found.false stop) in
    let empty : c.put.new.self ≡ [] = search rules in
    subst (λ p. LeadsTo (SeesIn g.C.Cursor c.settle.new.self es) p c.settle.result) on.2
    (c.settle.ensures.goes es (place_in es r) on.0
    (subst (g.C.Cursor.stands c.go_on.new.input es) (one_on es r)
    (c.in_ok-go_on.ensures.goes es (previous_place (Some r)) s))
    (subst (λ key. IsAhead n key es (place_in es r) on.0) (sym empty) on.1))
