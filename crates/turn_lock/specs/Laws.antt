-- What the rule of a lock says of turns, at every moment.
use Rattle.std.specs.Prelude.{◌≡◌, ◌≢◌, ◌⊎◌, ℕ, ◌+◌, ◌%◌, ◌^◌, ◌<◌, ◌≤◌}
use Rattle.std.specs.Prelude.{List, [], ◌∷◌, length, slice_index, Contains, Option, Some}
use mathlib.Core.Option.{none, some}
use lib.ListN.{get_elem?}
use Rattle.atomic_table.specs.Table.{State}
use Rattle.turn_lock.specs.declared.known.Known.{Known}
use Rattle.turn_lock.specs.declared.stage.Stage.{Stage}
use Rattle.turn_lock.specs.declared.stage.Stage.TheVariants.{Fresh, Filling, Idle, Waiting}
use Rattle.turn_lock.specs.declared.stage.Stage.TheVariants.{Serving, Spent}
use Rattle.turn_lock.specs.Lists.{IsFront}
use Rattle.turn_lock.specs.Seat.{IsServing, numbers}
use Rattle.turn_lock.specs.Rule.{ticket_count, place_count, IsLive, KeepsRule}

-- a seat at this stage has this ticket: it waits with it, or is served with it
abbrev pub HasDrawn : ℕ → Stage → Type 0
HasDrawn t (Waiting ticket) = ticket ≡ t
HasDrawn t (Serving ticket) = ticket ≡ t
HasDrawn t Fresh = ⊥
HasDrawn t Filling = ⊥
HasDrawn t Idle = ⊥
HasDrawn t Spent = ⊥

module _ {V E : Type 0} (s : State (Option V) (Known E)) where
  -- what the seat at this place of the table knows
  abbrev pub IsSeat : ℕ → Known E → Type 0
  IsSeat j v = get_elem? s.views j ≡ some v

  -- each other seat with a ticket has a later one than this seat
  abbrev pub ComesFirst : ℕ → ℕ → Type 0
  ComesFirst i t = (j u : ℕ) (w : Known E) → IsSeat j w → HasDrawn u w.stage → j ≢ i → t < u

  -- each seat has seen a front of this history
  abbrev pub AllHaveSeen : List E → Type 0
  AllHaveSeen history = (j : ℕ) (v : Known E) → IsSeat j v → IsFront v.seen history

  -- it is no seat's turn
  abbrev pub NoneIsServed : Type 0
  NoneIsServed = (j : ℕ) (v : Known E) → IsSeat j v → IsServing v.stage → ⊥

  -- this many tickets are over and this many were drawn: the words count them modulo 2^64
  pub record AreCounted (over drawn : ℕ) : Type 0 where
    pub next : slice_index s.words 0 ≡ drawn % 2 ^ 64
    pub served : slice_index s.words 1 ≡ over % 2 ^ 64
    pub held : drawn ≡ over + ticket_count s.views
    pub each :
        (j t : ℕ) (v : Known E) → IsSeat j v → HasDrawn t v.stage → (over ≤ t) × (t < drawn)
    pub turn : (j t : ℕ) (v : Known E) → IsSeat j v → v.stage ≡ Serving t → t ≡ over
    pub known : (j : ℕ) (v : Known E) → IsSeat j v → v.over ≤ over

  -- the history goes as far as some seat has seen, the word counts its events, and each of those
  -- since this beginning stands at a place of some seat, and just once
  pub record ArePlaced (base : ℕ) (history : List E) : Type 0 where
    pub seen : AllHaveSeen history
    pub longest : (j : ℕ) × ((v : Known E) × IsSeat j v × (v.seen ≡ history))
    pub events : slice_index s.words 2 ≡ length history % 2 ^ 64
    pub from : (j : ℕ) (v : Known E) → IsSeat j v → IsLive v.stage → v.base ≡ base
    pub within :
        (j p : ℕ) (v : Known E) → IsSeat j v → Contains v.mine p
        → (base ≤ p) × (p < length history)
    pub each :
        (p : ℕ) → base ≤ p → p < length history
        → (j : ℕ) × ((v : Known E) × IsSeat j v × Contains v.mine p)
    pub counted : base + place_count s.views ≡ length history

  -- the value is in the slot, and stands for a history of which each seat has seen a front
  abbrev pub HasHome : (V → List E → Type 0) → Type 0
  HasHome stands =
      (x : V) × (history : List E) × (s.homes ≡ some (Some x) ∷ []) × stands x history
      × AllHaveSeen history

module _ {V E : Type 0} (stands : V → List E → Type 0) (actor : E → Option ℕ) where
  -- what is said of a moment holds at each that the rule allows
  abbrev pub AtEachMoment : (State (Option V) (Known E) → Type 0) → Type 0
  AtEachMoment P = (s : State (Option V) (Known E)) → KeepsRule stands actor s → P s

  -- a ticket that a seat has was drawn and isn't over, the one that is served is the next, and what
  -- a seat knows to be over is
  abbrev pub TicketsAreCounted : Type 0
  TicketsAreCounted = AtEachMoment (λ s. (over : ℕ) × (drawn : ℕ) × AreCounted s over drawn)

  -- no ticket is two seats'
  abbrev pub TicketsAreApart : Type 0
  TicketsAreApart = AtEachMoment (λ s. (i j t : ℕ) (v w : Known E)
      → IsSeat s i v → IsSeat s j w → HasDrawn t v.stage → HasDrawn t w.stage → i ≡ j)

  -- the seat that is served has the lowest ticket
  abbrev pub ServedComesFirst : Type 0
  ServedComesFirst = AtEachMoment (λ s. (i t : ℕ) (v : Known E)
      → IsSeat s i v → v.stage ≡ Serving t → ComesFirst s i t)

  -- two seats that are served are one
  abbrev pub ServedIsOne : Type 0
  ServedIsOne = AtEachMoment (λ s. (i j : ℕ) (v w : Known E)
      → IsSeat s i v → IsSeat s j w → IsServing v.stage → IsServing w.stage → i ≡ j)

  -- a seat that waits and finds its ticket in the word of the one that is served has the lowest,
  -- no other is served, and the value is in the slot
  abbrev pub FoundComesFirst : Type 0
  FoundComesFirst = AtEachMoment (λ s. (i t : ℕ) (v : Known E)
      → IsSeat s i v → v.stage ≡ Waiting t → slice_index s.words 1 ≡ t % 2 ^ 64
      → ComesFirst s i t × NoneIsServed s × HasHome s stands)

  -- while it is a seat's turn, the slot is out
  abbrev pub TurnHasSlot : Type 0
  TurnHasSlot = AtEachMoment (λ s. (j : ℕ) (v : Known E)
      → IsSeat s j v → IsServing v.stage → s.homes ≡ none ∷ [])

  -- while the slot is out, it is the turn of a seat, or the first one is about to bring the value
  -- in
  abbrev pub OutIsTurn : Type 0
  OutIsTurn = AtEachMoment (λ s. s.homes ≡ none ∷ []
      → (j : ℕ) × ((v : Known E) × IsSeat s j v × (IsServing v.stage ⊎ (v.stage ≡ Filling))))

  -- a value that is in the slot stands for a history of which each seat has seen a front, and it is
  -- no seat's turn
  abbrev pub HomeStands : Type 0
  HomeStands = AtEachMoment (λ s. (x : V) → s.homes ≡ some (Some x) ∷ []
      → NoneIsServed s × ((history : List E) × stands x history × AllHaveSeen s history))

  -- what a seat has seen in its turn is the whole history: each seat has seen a front of it, and it
  -- has as many events as the word counts
  abbrev pub TurnSeesAll : Type 0
  TurnSeesAll = AtEachMoment (λ s. (j : ℕ) (v : Known E) → IsSeat s j v → IsServing v.stage
      → AllHaveSeen s v.seen × (slice_index s.words 2 ≡ length v.seen % 2 ^ 64))

  -- the places of all seats are those of the events since the beginning
  abbrev pub PlacesAreEvents : Type 0
  PlacesAreEvents = AtEachMoment (λ s. (base : ℕ) × (history : List E) × ArePlaced s base history)

  -- no place stands in two seats' lists
  abbrev pub PlacesAreApart : Type 0
  PlacesAreApart = AtEachMoment (λ s. (i j p : ℕ) (v w : Known E)
      → IsSeat s i v → IsSeat s j w → Contains v.mine p → Contains w.mine p → i ≡ j)

  -- a number that a seat has as its own, or of one joined into it, lies below the count of the
  -- seats, which the first seat knows
  abbrev pub NumbersAreCounted : Type 0
  NumbersAreCounted = AtEachMoment (λ s. (j : ℕ) (v : Known E) → IsSeat s j v → IsLive v.stage
      → ((n : ℕ) → Contains (numbers v) n → n < length s.views)
      × (v.number ≡ 0 → v.seats ≡ length s.views))

  -- no number is two seats'
  abbrev pub NumbersAreApart : Type 0
  NumbersAreApart = AtEachMoment (λ s. (i j n : ℕ) (v w : Known E)
      → IsSeat s i v → IsSeat s j w → IsLive v.stage → IsLive w.stage
      → Contains (numbers v) n → Contains (numbers w) n → i ≡ j)
