-- What the tests say of seats.
use Rattle.std.specs.Prelude.{◌≡◌, ℕ, ◌<◌, ◌≤◌, List, [], ◌∷◌, ◌++◌, length, drop, Option}
use Rattle.turn_lock.specs.declared.known.Known.{Known}
use Rattle.turn_lock.specs.Seat.{MayGive, with_events}

-- three ascending places
abbrev pub AreThree : List ℕ → Type 0
AreThree xs =
    (p : ℕ) × (q : ℕ) × (r : ℕ) × (p < q) × (q < r) × (xs ≡ p ∷ q ∷ r ∷ [])

-- the events behind those that the seat has seen
abbrev pub events_behind : {E : Type 0} → Known E → List E → List E
events_behind v events = drop (length v.seen) events

-- the seat may give a value back that has had these events
pub record Says {E : Type 0} (actor : E → Option ℕ) (v : Known E) (events : List E) : Type 0 where
  pub whole : v.seen ++ events_behind v events ≡ events
  pub one : length (events_behind v events) ≤ 1
  pub own : MayGive actor v.number (events_behind v events)

-- the seat after that
abbrev pub having_given : {E : Type 0} → Known E → List E → Known E
having_given v events = with_events (events_behind v events) v
