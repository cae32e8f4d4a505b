use Rattle.std.proofs.Common.{◌≡◌, ◌<◌, ◌∙◌, length, ap, sym, arith, rules}
use Rattle.std.proofs.lemmas.List.{get_or_default}
use Rattle.merge_iter.proofs.Telling.{first_is, none_is}
use Rattle.merge_iter.proofs.moving.first_refusal.Goals as goal

pub returns-in-Some : goal.returns-in-Some
returns-in-Some g c =
    let inputs = c.args.inputs.now in
    let i = c.loop-i.i in
    let lt : i < length inputs = search rules in
    sym (first_is g.C.Cursor inputs i c.in-Some.fault c.loop-i.invariant lt
    (λ d. ap g.C.Cursor.refused
    (sym (c.index-inputs-i.is ∙ get_or_default inputs i c.index-inputs-i.result d lt))
    ∙ sym c.fault.ensures ∙ c.in-Some.is))

pub returns : goal.returns
returns g c =
    let inputs = c.args.inputs.now in
    let end : c.loop-i.i ≡ length inputs = omega (arith, c.loop-i-test.false, c.loop-i.auto.i-end) in
    sym (none_is g.C.Cursor inputs
    (λ k d lt. c.loop-i.invariant k d (omega (arith, lt, end))))
