use Rattle.turn_lock.proofs.Turns.{turn_sees}
use Rattle.turn_lock.proofs.laws.law_history.Goals as goal

pub returns : goal.returns
returns g c = turn_sees g.V.Counted.stands g.V.Counted.actor
