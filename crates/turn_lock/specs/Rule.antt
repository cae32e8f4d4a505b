-- The rule of a lock's words, slot and views.
use Rattle.std.specs.Prelude.{◌≡◌, ◌⊎◌, ℕ, ◌+◌, ◌%◌, ◌^◌, ◌<◌, ◌≤◌}
use Rattle.std.specs.Prelude.{List, [], ◌∷◌, length, Contains, Option, Some, None}
use Rattle.std.specs.List.Sorted.{IsStrictlyIncreasing}
use mathlib.Core.Option.{none, some}
use mathlib.Core.Option as maybe
use lib.ListN.{get_elem?}
use Rattle.atomic_table.specs.Table.{State}
use Rattle.turn_lock.specs.declared.known.Known.{Known}
use Rattle.turn_lock.specs.declared.stage.Stage.{Stage}
use Rattle.turn_lock.specs.declared.stage.Stage.TheVariants.{Fresh, Filling, Idle, Waiting}
use Rattle.turn_lock.specs.declared.stage.Stage.TheVariants.{Serving, Spent}
use Rattle.turn_lock.specs.Lists.{IsFront}
use Rattle.turn_lock.specs.Seat.{IsServing, numbers, unmarked}
use Rattle.turn_lock.specs.Account.{Queue, Roll, Account}

-- a seat that knows nothing yet
abbrev pub blank : {E : Type 0} → Stage → ℕ → Known E
blank stage seats = record (unmarked 0 []) { stage = stage; seats = seats }

-- the first seat before the lock has its value
abbrev pub fresh : {E : Type 0} → Known E
fresh = blank Fresh 1

-- the same with the slot in hand
abbrev pub filling : {E : Type 0} → Known E
filling = blank Filling 1

-- a seat that was joined into another
abbrev pub spent : {E : Type 0} → Known E
spent = blank Spent 0

-- the seat was joined into another
abbrev pub IsSpent : Stage → Type 0
IsSpent Spent = Unit {0}
IsSpent _ = ⊥

-- it wasn't
abbrev pub IsLive : Stage → Type 0
IsLive Spent = ⊥
IsLive _ = Unit {0}

-- how many tickets a seat at this stage has
abbrev pub tickets_at : Stage → ℕ
tickets_at (Waiting ticket) = 1
tickets_at (Serving ticket) = 1
tickets_at _ = 0

-- how many tickets all seats have
abbrev pub ticket_count : {E : Type 0} → List (Known E) → ℕ
ticket_count [] = 0
ticket_count (v ∷ vs) = tickets_at v.stage + ticket_count vs

-- how many places all seats have
abbrev pub place_count : {E : Type 0} → List (Known E) → ℕ
place_count [] = 0
place_count (v ∷ vs) = length v.mine + place_count vs

-- the seat drew the ticket that it has at this stage, which isn't served yet, or is just now
abbrev pub HasTicket : Queue → ℕ → Stage → Type 0
HasTicket q seat Fresh = ⊥
HasTicket q seat Filling = ⊥
HasTicket q seat Idle = Unit {0}
HasTicket q seat (Waiting ticket) =
    (q.served ≤ ticket) × (ticket < q.drawn) × (q.taker ticket ≡ seat)
HasTicket q seat (Serving ticket) =
    (ticket ≡ q.served) × (ticket < q.drawn) × (q.taker ticket ≡ seat)
HasTicket q seat Spent = Unit {0}

-- the places and numbers that a seat knows as its own are its own by the roll
pub record Knows {E : Type 0} (r : Roll) (seat : ℕ) (v : Known E) : Type 0 where
  pub from : v.base ≡ r.base
  pub mine : (p : ℕ) → Contains v.mine p → (r.giver p ≡ seat) × (r.base ≤ p) × (p < length v.seen)
  pub ascends : IsStrictlyIncreasing v.mine
  pub numbers : (n : ℕ) → Contains (numbers v) n → (r.owner n ≡ seat) × (n < r.seats)
  pub count : v.number ≡ 0 → v.seats ≡ r.seats

-- a seat has seen a front of the history and of the turns, and a spent one has nothing left
pub record Fits {E : Type 0} (a : Account E) (seat : ℕ) (v : Known E) : Type 0 where
  pub ticket : HasTicket a.queue seat v.stage
  pub over : v.over ≤ a.queue.served
  pub seen : IsFront v.seen a.history
  pub told : IsFront v.told a.history
  pub gone : IsSpent v.stage → (v.seen ≡ []) × (v.mine ≡ [])
  pub knows : IsLive v.stage → Knows a.roll seat v

module _ {V E : Type 0} (stands : V → List E → Type 0) (actor : E → Option ℕ) where
  -- the value is in the slot, stands for the history, and no seat is served
  abbrev pub IsAtHome : Account E → List (maybe.Option (Option V)) → List (Known E) → Type 0
  IsAtHome a homes views =
      (x : V) × (homes ≡ some (Some x) ∷ []) × stands x a.history
      × ((j : ℕ) (v : Known E) → get_elem? views j ≡ some v → IsServing v.stage → ⊥)

  -- the slot is out with the seat that is served, which has seen the whole history
  abbrev pub IsAway : Account E → List (maybe.Option (Option V)) → List (Known E) → Type 0
  IsAway a homes views =
      (homes ≡ none ∷ [])
      × ((j : ℕ) × ((v : Known E) × (get_elem? views j ≡ some v)
      × ((v.stage ≡ Serving a.queue.served) × (v.seen ≡ a.history))))

  -- the words are the counts modulo 2 ^ 64; each ticket, number and place is just one seat's
  pub record AccountsFor (a : Account E) (s : State (Option V) (Known E)) : Type 0 where
    pub words :
        s.words ≡ (a.queue.drawn % 2 ^ 64) ∷ (a.queue.served % 2 ^ 64)
        ∷ (length a.history % 2 ^ 64) ∷ []
    pub tickets : a.queue.drawn ≡ a.queue.served + ticket_count s.views
    pub counted : a.roll.base + place_count s.views ≡ length a.history
    pub seats : (length s.views ≡ a.roll.seats) × (a.roll.seats < 2 ^ 64)
    pub long : a.roll.base ≤ length a.history
    pub each : (j : ℕ) (v : Known E) → get_elem? s.views j ≡ some v → Fits a j v
    pub longest : (v : Known E) × (get_elem? s.views a.top ≡ some v) × (v.seen ≡ a.history)
    pub given :
        (p : ℕ) → a.roll.base ≤ p → p < length a.history
        → (v : Known E) × (get_elem? s.views (a.roll.giver p) ≡ some v) × Contains v.mine p
    pub carried :
        (p n : ℕ) (e : E) → a.roll.base ≤ p → get_elem? a.history p ≡ some e → actor e ≡ Some n
        → (a.roll.giver p ≡ a.roll.owner n) × (n < a.roll.seats)
    pub value : IsAtHome a s.homes s.views ⊎ IsAway a s.homes s.views

  -- before the lock has its value there is one seat
  abbrev pub IsOpening : State (Option V) (Known E) → Type 0
  IsOpening s =
      (s.words ≡ 0 ∷ 0 ∷ 0 ∷ [])
      × (((s.views ≡ fresh ∷ []) × (s.homes ≡ some None ∷ []))
      ⊎ ((s.views ≡ filling ∷ []) × (s.homes ≡ none ∷ [])))

  -- the lock has its value and an account for it, or is about to get it
  abbrev pub KeepsRule : State (Option V) (Known E) → Type 0
  KeepsRule s = IsOpening s ⊎ ((a : Account E) × AccountsFor a s)
