use Rattle.std.proofs.Common.{rules, ◌≡◌, ◌∷◌, ◌∙◌, [], Some}
use Rattle.atomic_table.specs.Table.{rest}
use Rattle.turn_lock.specs.Rule.{filling}
use Rattle.turn_lock.proofs.Opening.{grabs, begins}
use Rattle.turn_lock.proofs.lock.TurnLock.begin.Goals as goal

pub load-requires : goal.load-requires
load-requires g c = (search rules, search rules, grabs g.V.Counted.stands g.V.Counted.actor _ _ _ c.requires.fresh)

pub store-requires : goal.store-requires
store-requires g c =
    let grabbed = c.load.ensures.2 in let v = c.args.value in
    let is : c.exchange-old.new.seat.me ≡ (filling, (0, Some v) ∷ []) =
    c.exchange-old.ensures.3 ∙ ((λ i. ((grabbed i).0, (0, Some v) ∷ rest (grabbed i).1)) ∙ (λ i. (filling, (0, Some v) ∷ (c.requires.fresh i).1))) in
    let counted = c.events-events.ensures g.K.Names.named c.requires.value in
    (search rules, search rules, begins g.V.Counted.stands g.V.Counted.actor g.K.Names.named _ _ _ _ v is c.requires.value counted)
