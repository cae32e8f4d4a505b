use Rattle.turn_lock.proofs.Turns.{tickets_counted, tickets_apart, served_first, served_once, found_first}
use Rattle.turn_lock.proofs.laws.law_order.Goals as goal

pub returns-clause-counted : goal.returns-clause-counted
returns-clause-counted g c = tickets_counted g.V.Counted.stands g.V.Counted.actor

pub returns-clause-apart : goal.returns-clause-apart
returns-clause-apart g c = tickets_apart g.V.Counted.stands g.V.Counted.actor

pub returns-clause-served : goal.returns-clause-served
returns-clause-served g c = served_first g.V.Counted.stands g.V.Counted.actor

pub returns-clause-found : goal.returns-clause-found
returns-clause-found g c = found_first g.V.Counted.stands g.V.Counted.actor

pub returns-clause-one : goal.returns-clause-one
returns-clause-one g c = served_once g.V.Counted.stands g.V.Counted.actor
