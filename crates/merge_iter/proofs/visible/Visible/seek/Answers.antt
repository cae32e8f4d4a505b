use Rattle.std.proofs.Common.{◌≡◌, [], rules, sym, subst}
use Rattle.peb_base.specs.Cursors.{place_from}
use Rattle.peb_base.specs.Entries.{first_from}
use Rattle.merge_iter.specs.Seeing.{IsAhead, visible}
use Rattle.merge_iter.proofs.Beginning.{seek_ahead}
use Rattle.merge_iter.proofs.visible.Visible.seek.Goals as goal

pub returns-clause-goes : goal.returns-clause-goes
returns-clause-goes g c = λ es place s.
    let n = c.args.self.now.number in
    let key = c.args.key.now in
    let p = first_from key n (visible n es) in
    let sorted = (g.met.C.Cursor.among c.args.self.now.inner es s.at s.stands).sorted in
    let empty : c.put.new.self ≡ [] = search rules in
    c.settle.ensures.goes es (place_from key n es) p (c.in_ok-seek.ensures.goes es s.at s.stands)
    (subst (λ kept. IsAhead n kept es (place_from key n es) p) (sym empty) (seek_ahead n key es sorted))
