use Rattle.std.proofs.Common.{rules, ◌∙◌, sym, ap, subst}
use Rattle.turn_lock.specs.Seat.{IsServing, with_events}
use Rattle.turn_lock.proofs.Stages.{serving_is}
use Rattle.turn_lock.proofs.Counting.{checks, counts, none_came, one_came, with_no_events}
use Rattle.turn_lock.proofs.lock.TurnLock.note.Goals as goal

pub load-known-requires : goal.load-known-requires
load-known-requires g c =
    let turn = serving_is _ c.requires.turn in
    (search rules, search rules, checks g.V.Counted.stands g.V.Counted.actor _ _ turn.0 _ turn.1)

pub returns-then-events-known-clause-noted : goal.returns-then-events-known-clause-noted
returns-then-events-known-clause-noted g c =
    let l = c.load-known.ensures in let q = c.requires in let said = g.K.Names.named in let v = c.args.place.now.me.0 in
    let none = none_came v.seen said c.events-events.result q.events.one (c.events-events.ensures _ q.events.value) (c.if-events-known.true ∙ l.2.1) in
    l.2.0 ∙ (λ i. (with_no_events said v none i, c.args.place.now.me.1))

pub fetch_add-requires : goal.fetch_add-requires
fetch_add-requires g c =
    let l = c.load-known.ensures in let same = l.2.0 in let q = c.requires in let said = g.K.Names.named in
    let one = one_came c.args.place.now.me.0.seen said c.events-events.result c.load-known.result q.events.one (c.events-events.ensures _ q.events.value) l.2.1 c.if-events-known.false in
    (search rules, search rules, counts g.V.Counted.stands g.V.Counted.actor said _ _ _ (subst (λ m. IsServing m.0.stage) (sym same) q.turn) one (λ e n h a. q.events.own e n h a ∙ ap (λ m. m.0.number) (sym same)))

pub returns-clause-noted : goal.returns-clause-noted
returns-clause-noted g c =
    c.fetch_add.ensures.2 ∙ (λ i. (with_events g.K.Names.named (c.load-known.ensures.2.0 i).0, (c.load-known.ensures.2.0 i).1))
