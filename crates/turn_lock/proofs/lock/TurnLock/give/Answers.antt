use Rattle.std.proofs.Common.{rules, ◌≡◌, ◌∷◌, ◌∙◌, [], ap, subst, sym, Some}
use Rattle.atomic_table.specs.Table.{rest}
use Rattle.turn_lock.specs.Seat.{held_at, with_events}
use Rattle.turn_lock.proofs.Stages.{serving_is}
use Rattle.turn_lock.proofs.Passing.{passes}
use Rattle.turn_lock.proofs.lock.TurnLock.give.Goals as goal

pub fetch_add-served-requires : goal.fetch_add-served-requires
fetch_add-served-requires g c =
    let q = c.requires.1.1.1 in let value = c.args.value in let v = c.args.seat.now.known in
    let turn = serving_is v.stage q.0 in let known = ap (λ z. z.known) c.seat.view_is in
    let held = c.seat.invariant.1 ∙ (λ i. held_at (((λ j. (known j).stage) ∙ turn.1) i)) in
    let noted = c.note.ensures.noted ∙ (λ i. (with_events g.said (known i), held i)) in
    let is : c.exchange-old.new.seat.me ≡ (with_events g.said v, (0, Some value) ∷ []) =
    c.exchange-old.ensures.3 ∙ (λ i. ((noted i).0, (0, Some value) ∷ rest (noted i).1)) in
    (search rules, search rules, passes g.V.Counted.stands g.V.Counted.actor _ _ turn.0 _ value (ap (λ m. m.0.stage) is ∙ turn.1) (ap (λ m. m.1) is) (subst (g.V.Counted.stands value) (ap (λ m. m.0.seen) (sym is)) q.1.value))
