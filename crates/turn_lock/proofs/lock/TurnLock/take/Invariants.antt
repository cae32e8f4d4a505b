use Rattle.std.proofs.Common.{◌≡◌, ◌≤◌, ℕ, ◌%◌, ◌^◌, []}
use Rattle.turn_lock.specs.declared.stage.Stage.TheVariants.{Waiting}
use Rattle.turn_lock.specs.Seat.{at_stage}
use Rattle.turn_lock.proofs.lock.TurnLock.take.Given as goal

abbrev pub invariant-loop : goal.invariant-loop
invariant-loop g l =
    (t : ℕ) × (l.seat-inside.place.me ≡ (at_stage (Waiting t) l.fn.seat.known, [])) × (l.ticket ≡ t % 2 ^ 64)
    × (l.fn.seat.known.over ≤ t)
    × (l.seat-inside.place.table_id ≡ l.fn.seat.lock) × (l.seat-inside.seats ≡ l.fn.seat.known.seats)
