use Rattle.std.proofs.Common.{◌<◌, ◌∙◌, length, subst, rules}
use Rattle.std.proofs.lemmas.List.{get_or_default}
use Rattle.merge_iter.specs.Moves.{Failed, Moved, OneFailed}
use Rattle.merge_iter.proofs.Sending.{begun_failed}
use Rattle.merge_iter.proofs.moving.send_all.Goals as goal

pub returns-in_err-go : goal.returns-in_err-go
returns-in_err-go g c =
    let lt : c.loop-k.k < length c.loop-k.inputs.items = search rules in
    let e = c.in_err-go.field-0.0 in
    let failed : OneFailed g.C.Cursor e c.args.inputs.now.items _ =
    begun_failed g.C.Cursor g.met.C.Cursor.kept (Moved g.C.Cursor c.args.step) (λ a b h. h.remains) e
    c.args.inputs.now.items c.loop-k.inputs.items c.loop-k.k c.go.new.input lt c.loop-k.invariant
    (λ d. subst (λ x. Failed g.C.Cursor e x c.go.new.input)
    (c.index_mut.ensures.value ∙ get_or_default c.loop-k.inputs.items c.loop-k.k c.index_mut.result.now d lt) c.in_err-go.ensures) in
    search rules
