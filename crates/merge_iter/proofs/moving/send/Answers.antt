use Rattle.std.proofs.Common.{◌<◌, ◌∙◌, length, set, sym, subst}
use Rattle.std.specs.Prelude.{IfSome}
use Rattle.std.proofs.lemmas.List.{get_or_default}
use Rattle.merge_iter.specs.Moves.{AllWent, Moved, Of, Went}
use Rattle.merge_iter.proofs.Sending.{one_went}
use Rattle.merge_iter.proofs.moving.send.Goals as goal

pub returns : goal.returns
returns g c =
    let inputs = c.args.inputs.now.items in
    let place = c.in-Some.place in
    let lt : place < length inputs = subst (λ o. IfSome o (λ k. k < length inputs)) c.in-Some.is c.requires in
    subst (λ o. AllWent g.C.Cursor (Of (Moved g.C.Cursor c.args.step) o) inputs (set inputs place c.go.new.input) c.go.result)
    (sym c.in-Some.is)
    (one_went g.C.Cursor g.met.C.Cursor.kept c.args.step inputs place c.go.new.input c.go.result lt
    (λ d. subst (λ x. Went g.C.Cursor c.args.step x c.go.new.input c.go.result)
    (c.index_mut.ensures.value ∙ get_or_default inputs place c.index_mut.result.now d lt) c.go.ensures))
