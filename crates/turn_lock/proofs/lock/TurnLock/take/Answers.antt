use Rattle.std.proofs.Common.{rules, ℕ, ◌≤◌, subst, ◌∙◌, ◌∷◌, sym, ap, Some}
use Rattle.atomic_table.specs.Table.{rest}
use Rattle.turn_lock.specs.Seat.{held_at, at_stage}
use Rattle.turn_lock.specs.declared.stage.Stage.TheVariants.{Waiting}
use Rattle.turn_lock.proofs.Drawing.{draws}
use Rattle.turn_lock.proofs.Looking.{looks}
use Rattle.turn_lock.proofs.lock.TurnLock.take.Goals as goal

pub fetch_add-ticket-requires : goal.fetch_add-ticket-requires
fetch_add-ticket-requires g c =
    let known = ap (λ z. z.known) c.seat.view_is in
    (search rules, search rules, draws g.V.Counted.stands g.V.Counted.actor _ _ _ ((λ i. (known i).stage) ∙ c.requires.rests))

pub loop-init : goal.loop-init
loop-init g c =
    let d = c.fetch_add-ticket.ensures in let drawn = d.2 in let known = ap (λ z. z.known) c.seat.view_is in
    let none = c.seat.invariant.1 ∙ (λ i. held_at (((λ j. (known j).stage) ∙ c.requires.rests) i)) in
    (drawn.0, drawn.1 ∙ (λ i. (at_stage (Waiting drawn.0) (known i), none i)), drawn.2, subst (λ (n : ℕ). n ≤ drawn.0) (λ i. (known i).over) drawn.3, search rules, search rules)

pub load-serving-requires : goal.load-serving-requires
load-serving-requires g c =
    let i = c.loop.invariant in
    (search rules, search rules, looks g.V.Counted.stands g.V.Counted.actor _ _ i.0 _ (ap (λ m. m.0.stage) i.1))

pub exchange-found-requires : goal.exchange-found-requires
exchange-found-requires g c =
    let i = c.loop.invariant in
    let s = (c.load-serving.ensures.2 i.0 (ap (λ m. m.0.stage) i.1)).0 (c.if-serving-ticket.true ∙ i.2) in let held = ap (λ m. m.1) s.2 in
    (search rules, (Some s.0, held ∙ ap (λ cs. (0, Some s.0) ∷ rest cs) (sym held)))
