use Rattle.turn_lock.proofs.Turns.{turn_slot, out_turn, home_stands}
use Rattle.turn_lock.proofs.laws.law_value.Goals as goal

pub returns-clause-turn : goal.returns-clause-turn
returns-clause-turn g c = turn_slot g.V.Counted.stands g.V.Counted.actor

pub returns-clause-out : goal.returns-clause-out
returns-clause-out g c = out_turn g.V.Counted.stands g.V.Counted.actor

pub returns-clause-home : goal.returns-clause-home
returns-clause-home g c = home_stands g.V.Counted.stands g.V.Counted.actor
