use Rattle.turn_lock.specs.Seat.{IsIdle}
use Rattle.turn_lock.proofs.tests.add_many.Given as goal

abbrev pub invariant-loop-value : goal.invariant-loop-value
invariant-loop-value g l = IsIdle l.fn.lock l.fn.actor.by l.seat
