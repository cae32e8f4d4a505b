use Rattle.std.proofs.Common.{◌∙◌}
use Rattle.merge_iter.proofs.Lending.{lends}
use Rattle.merge_iter.proofs.visible.Visible.at.Goals as goal

pub returns-clause-place : goal.returns-clause-place
returns-clause-place g c = λ es place s.
    let view = c.args.self.now in
    c.lent.ensures.lent
    ∙ lends g.C.Cursor g.met.C.Cursor.among view.number view.inner es place s
