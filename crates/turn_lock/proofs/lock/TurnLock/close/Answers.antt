use Rattle.std.proofs.Common.{◌∙◌, ap, subst, sym, Some, None, Option}
use mathlib.Core.Option.{some-injective}
use Rattle.turn_lock.proofs.Lists.{same_some}
use Rattle.turn_lock.proofs.Closing.{closes}
use Rattle.turn_lock.proofs.lock.TurnLock.close.Goals as goal

abbrev IsNone : {A : Type 0} → Option A → Type 0
IsNone None = Unit {0}
IsNone (Some x) = ⊥

pub unreachable-requires : goal.unreachable-requires
unreachable-requires g c =
    let known = ap (λ z. z.known) c.seat.view_is in
    let h = closes g.V.Counted.stands g.V.Counted.actor _ _ _ _ _ (sym known) c.requires.rests c.requires.first c.requires.all c.close_with-closed.ensures.values.2 in
    subst IsNone (sym c.in-None.is ∙ some-injective _ _ (sym c.take-slot.ensures.value ∙ h.0.1)) tt

pub returns-clause-value : goal.returns-clause-value
returns-clause-value g c =
    let known = ap (λ z. z.known) c.seat.view_is in
    let h = closes g.V.Counted.stands g.V.Counted.actor _ _ _ _ _ (sym known) c.requires.rests c.requires.first c.requires.all c.close_with-closed.ensures.values.2 in
    subst (λ x. g.V.Counted.stands x c.args.seat.known.seen) (same_some _ _ (some-injective _ _ (sym h.0.1 ∙ c.take-slot.ensures.value) ∙ c.in-Some.is)) h.0.2

pub returns-clause-whole : goal.returns-clause-whole
returns-clause-whole g c =
    let known = ap (λ z. z.known) c.seat.view_is in
    (closes g.V.Counted.stands g.V.Counted.actor _ _ _ _ _ (sym known) c.requires.rests c.requires.first c.requires.all c.close_with-closed.ensures.values.2).1
