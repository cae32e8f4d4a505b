use Rattle.std.proofs.Common.{rules, ◌∙◌, ap, subst, sym, ⊎_elim}
use Rattle.std.specs.List.{Contains}
use Rattle.std.specs.List.Sorted.{IsStrictlyIncreasing}
use Rattle.turn_lock.specs.Seat.{held_at, after_join}
use Rattle.turn_lock.proofs.Joining.{joins, learns_joined}
use Rattle.turn_lock.proofs.Places.{merged_left, merged_right, merged_either, merged_apart}
use Rattle.turn_lock.proofs.lock.TurnLock.join.Goals as goal

pub join_seat-requires : goal.join_seat-requires
join_seat-requires g c =
    let one = ap (λ z. z.known) c.seat.view_is in let two = ap (λ z. z.known) c.other.view_is in let idle = (λ i. (two i).stage) ∙ c.requires.rests.1 in (
      search rules,
      search rules,
      c.other.invariant.1 ∙ (λ i. held_at (idle i)),
      search rules,
      joins g.V.Counted.stands g.V.Counted.actor _ _ _ _ ((λ i. (one i).stage) ∙ c.requires.rests.0) idle (λ e. c.requires.later ((λ i. (sym two i).number) ∙ e)),
    )

pub load-requires : goal.load-requires
load-requires g c =
    let one = ap (λ z. z.known) c.seat.view_is in
    (search rules, search rules, learns_joined g.V.Counted.stands g.V.Counted.actor _ _ _ c.seat.inside.place.me.0 c.other.inside.place.me.0 (ap (λ m. m.0) c.join_seat.ensures.2) ((λ i. (one i).stage) ∙ c.requires.rests.0))

pub returns-clause-apart : goal.returns-clause-apart
returns-clause-apart g c =
    let one = ap (λ z. z.known) c.seat.view_is in let two = ap (λ z. z.known) c.other.view_is in
    let glued = ap (λ m. m.0) c.join_seat.ensures.2 ∙ (λ i. after_join (one i) (two i)) in
    merged_apart c.args.seat.now.known.mine c.args.other.known.mine (subst (λ v. IsStrictlyIncreasing v.mine) glued c.load.ensures.2.2.ascend)

pub returns-clause-both : goal.returns-clause-both
returns-clause-both g c p =
    let one = ap (λ z. z.known) c.seat.view_is in let two = ap (λ z. z.known) c.other.view_is in let v = c.args.seat.now.known.mine in let w = c.args.other.known.mine in
    let is = ap (λ m. m.0.mine) c.load.ensures.2.0 ∙ (ap (λ m. m.0.mine) c.join_seat.ensures.2 ∙ (λ i. (after_join (one i) (two i)).mine)) in (
      λ h. merged_either v w p (subst (λ l. Contains l p) is h),
      λ h. subst (λ l. Contains l p) (sym is) (⊎_elim (merged_left v w p) (merged_right v w p) h),
    )
