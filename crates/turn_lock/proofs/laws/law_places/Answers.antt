use Rattle.turn_lock.proofs.Parting.{places_events, places_apart, numbers_counted, numbers_apart}
use Rattle.turn_lock.proofs.laws.law_places.Goals as goal

pub returns-clause-events : goal.returns-clause-events
returns-clause-events g c = places_events g.V.Counted.stands g.V.Counted.actor

pub returns-clause-apart : goal.returns-clause-apart
returns-clause-apart g c = places_apart g.V.Counted.stands g.V.Counted.actor

pub returns-clause-numbers : goal.returns-clause-numbers
returns-clause-numbers g c = numbers_counted g.V.Counted.stands g.V.Counted.actor

pub returns-clause-own_numbers : goal.returns-clause-own_numbers
returns-clause-own_numbers g c = numbers_apart g.V.Counted.stands g.V.Counted.actor
