use Rattle.std.proofs.Common.{◌∙◌, [], sym, subst, take}
use Rattle.merge_iter.specs.Seeing.{IsBack, seen}
use Rattle.merge_iter.proofs.Turning.{went_back}
use Rattle.merge_iter.proofs.visible.Visible.settle_back.Goals as goal

pub loop-found-preserved : goal.loop-found-preserved
loop-found-preserved g c =
    went_back g.C.Cursor g.met.C.Cursor.among g.met.C.Cursor.kept_on c.args.self.now c.loop-found.self
    c.keep_key.new.self c.prev.new.self c.loop-found.found c.finds-found.result c.loop-found.invariant
    c.finds-found.ensures c.keep_key.ensures (sym c.goes_back.ensures ∙ c.loop-found-test.true)
    c.in_ok-prev.ensures.goes c.prev.ensures.counts.never_falls c.prev.ensures.keeps c.in_ok-prev.ensures.refused

pub returns-clause-goes : goal.returns-clause-goes
returns-clause-goes g c = λ es r s.
    let old = c.args.self.now in
    let at = c.loop-found.invariant.goes es r s in
    let left = seen old.number [] (take r es) in
    c.turn.ensures.goes es at.0 left at.1
    (subst (λ n. IsBack n c.loop-found.self.key es at.0 left c.loop-found.found)
    (sym c.loop-found.invariant.number) at.2)
    (sym c.goes_back.ensures ∙ c.loop-found-test.false)
