use Rattle.std.proofs.Common.{◌≡◌, All}
use Rattle.turn_lock.specs.Seat.{IsIdle}
use Rattle.turn_lock.proofs.tests.actors.Given as goal

abbrev pub invariant-loop-by : goal.invariant-loop-by
invariant-loop-by l = record {
  first : IsIdle l.fn.lock 0 l.first;
  next : l.first.known.seats ≡ l.by;
  ready : All (λ actor. IsIdle l.fn.lock actor.by actor.seat) l.actors.items;
}
