-- What each step tells its seat: of the step, the seat before, the word found, the seat after.
use Rattle.std.specs.Prelude.{◌≡◌, ◌≢◌, ◌≤◌, ℕ, ◌%◌, ◌^◌, List, ◌∷◌, length}
use Rattle.std.specs.Prelude.{Option, Some, None}
use Rattle.atomic_table.specs.Table.{Me, Step, rest}
use Rattle.turn_lock.specs.declared.known.Known.{Known}
use Rattle.turn_lock.specs.declared.stage.Stage.TheVariants.{Waiting, Serving}
use Rattle.turn_lock.specs.Lists.{IsFront}
use Rattle.turn_lock.specs.Seat.{HasOwnEvents, HasPlaces, first_seat, with_events}
use Rattle.turn_lock.specs.Seat.{at_stage, after_turn, having_seen}
use Rattle.turn_lock.specs.Rule.{filling}

-- what a seat knows, and the slot that it may hold
abbrev Mine : Type 0 → Type 0 → Type 0
Mine V E = Me (Option V) (Known E)

module _ {V E : Type 0} where
  -- the first seat has the empty slot in hand
  abbrev pub AfterGrab : Step (Option V) → Mine V E → ℕ → Mine V E → Type 0
  AfterGrab step m r w = w ≡ (filling, (0, None) ∷ m.1)

  -- the slot is at home, and the lock begins with this history
  abbrev pub AfterBegin : List E → Step (Option V) → Mine V E → ℕ → Mine V E → Type 0
  AfterBegin history step m r w = w ≡ (first_seat history, rest m.1)

  -- the seat has the ticket whose remainder was found; it isn't one that it knows to be over
  abbrev pub AfterDraw : Step (Option V) → Mine V E → ℕ → Mine V E → Type 0
  AfterDraw step m r w =
      (t : ℕ) × (w ≡ (at_stage (Waiting t) m.0, m.1)) × (r ≡ t % 2 ^ 64) × (m.0.over ≤ t)

  -- the seat is served, has the slot in hand, and the value in it stands for what it has then seen
  abbrev pub IsServed : (V → List E → Type 0) → (E → Option ℕ) → ℕ → Mine V E → Mine V E → Type 0
  IsServed stands actor t m w =
      (x : V) × (h : List E) × (w ≡ (having_seen (Serving t) h m.0, (0, Some x) ∷ m.1))
      × IsFront m.0.seen h × stands x h × HasOwnEvents actor w.0 × HasPlaces w.0

  -- a seat with a ticket is served just where the remainder of that ticket was found
  abbrev pub AfterLook :
      (V → List E → Type 0) → (E → Option ℕ) → Step (Option V) → Mine V E → ℕ → Mine V E → Type 0
  AfterLook stands actor step m r w =
      (t : ℕ) → m.0.stage ≡ Waiting t
      → (r ≡ t % 2 ^ 64 → IsServed stands actor t m w) × (r ≢ t % 2 ^ 64 → w ≡ m)

  -- what was found is the length of what the seat has seen, modulo 2^64
  abbrev pub AfterCheck : Step (Option V) → Mine V E → ℕ → Mine V E → Type 0
  AfterCheck step m r w = (w ≡ m) × (r ≡ length m.0.seen % 2 ^ 64)

  -- the events were given through the seat
  abbrev pub AfterCount : List E → Step (Option V) → Mine V E → ℕ → Mine V E → Type 0
  AfterCount es step m r w = w ≡ (with_events es m.0, m.1)

  -- the seat's turn is over, and the slot is at home
  abbrev pub AfterPass : Step (Option V) → Mine V E → ℕ → Mine V E → Type 0
  AfterPass step m r w = w ≡ (after_turn m.0, rest m.1)

  -- of two seats that were joined the one saw a front of the other, no place was both theirs, and
  -- each event that carries a number of theirs stands at one
  abbrev pub AfterLearn :
      (E → Option ℕ) → Step (Option V) → Mine V E → ℕ → Mine V E → Type 0
  AfterLearn actor step m r w =
      (w ≡ m) × IsFront m.0.told m.0.seen × HasPlaces m.0 × HasOwnEvents actor m.0
