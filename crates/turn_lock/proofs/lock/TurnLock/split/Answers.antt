use Rattle.std.proofs.Common.{rules, ◌∙◌, ◌+◌, ◌<◌, ◌^◌, ap}
use Rattle.turn_lock.proofs.Splitting.{splits}
use Rattle.turn_lock.proofs.Joining.{learns_new}
use Rattle.turn_lock.proofs.lock.TurnLock.split.Goals as goal

pub split_seat-place-requires : goal.split_seat-place-requires
split_seat-place-requires g c =
    let known = ap (λ z. z.known) c.seat.view_is in
    let room : c.seat.inside.place.me.0.seats + 1 < 2 ^ 64 = search rules in
    (search rules, search rules, splits g.V.Counted.stands g.V.Counted.actor _ _ ((λ i. (known i).stage) ∙ c.requires.rests) ((λ i. (known i).number) ∙ c.requires.first) room)

pub load-requires : goal.load-requires
load-requires g c =
    (search rules, search rules, learns_new g.V.Counted.stands g.V.Counted.actor _ _ _ c.seat.inside.place.me.0 (ap (λ m. m.0) c.split_seat-place.ensures.4))
