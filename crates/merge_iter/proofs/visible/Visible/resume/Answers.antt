use Rattle.std.proofs.Common.{sym, subst}
use Rattle.peb_base.specs.Cursors.{place_from}
use Rattle.peb_base.specs.Entries.{first_from}
use Rattle.merge_iter.specs.Seeing.{IsAhead, visible}
use Rattle.merge_iter.proofs.Beginning.{seek_ahead}
use Rattle.merge_iter.proofs.visible.Visible.resume.Goals as goal

pub returns-clause-goes : goal.returns-clause-goes
returns-clause-goes g c = λ es quiet s.
    let n = c.args.number in
    let key = c.args.key.now in
    let p = first_from key n (visible n es) in
    let at = place_from key n es in
    let sorted = (g.met.C.Cursor.among c.args.inner es at s).sorted in
    c.go_in-answer.ensures.goes es at p quiet s
    (subst (λ kept. IsAhead n kept es at p) (sym c.new.ensures) (seek_ahead n key es sorted))
