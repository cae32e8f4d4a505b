-- What a seat knows, and how a call changes it.
use Rattle.std.specs.Prelude.{◌≡◌, ℕ, ◌+◌, ◌<◌, ◌≤◌, List, [], ◌∷◌, ◌++◌}
use Rattle.std.specs.Prelude.{max, length, slice_get, Contains, Option, Some, None}
use Rattle.std.specs.List.Sorted.{IsStrictlyIncreasing}
use Rattle.atomic_table.specs.Seated.{TableId}
use Rattle.turn_lock.specs.declared.known.Known.{Known}
use Rattle.turn_lock.specs.declared.stage.Stage.{Stage}
use Rattle.turn_lock.specs.declared.stage.Stage.TheVariants.{Idle, Serving}
use Rattle.turn_lock.specs.Lists.{longer, shorter, places_from, merged}

-- what a clause sees of a seat: which lock it is of, and what it knows
pub record SeatView (E : Type 0) : Type 0 where
  pub lock : TableId
  pub known : Known E

-- a seat of the lock rests, and has this number
abbrev pub IsIdle : {E : Type 0} → TableId → ℕ → SeatView E → Type 0
IsIdle lock number seat =
    (seat.lock ≡ lock) × (seat.known.stage ≡ Idle) × (seat.known.number ≡ number)

-- what a seat holds at a stage: the emptied slot while it is served
abbrev pub held_at : {V : Type 0} → Stage → List (ℕ × Option V)
held_at (Serving ticket) = (0, None) ∷ []
held_at _ = []

-- it is the turn of a seat at this stage
abbrev pub IsServing : Stage → Type 0
IsServing (Serving ticket) = Unit {0}
IsServing _ = ⊥

-- it is the turn of a seat at this stage, with a ticket of this number or a later one
abbrev pub IsServedFrom : ℕ → Stage → Type 0
IsServedFrom n (Serving ticket) = n ≤ ticket
IsServedFrom n _ = ⊥

-- the numbers of the seat and of those that were joined into it
abbrev pub numbers : {E : Type 0} → Known E → List ℕ
numbers v = v.number ∷ v.joined

-- each event since `new` that it has seen, and that carries a number of the seat or of one joined
-- into it, stands at one of its places
abbrev pub HasOwnEvents : {E : Type 0} → (E → Option ℕ) → Known E → Type 0
HasOwnEvents {E} actor v =
    (p n : ℕ) (e : E) → v.base ≤ p → slice_get v.seen p ≡ Some e
    → actor e ≡ Some n → Contains (numbers v) n → Contains v.mine p

-- no event since `new` that it has seen carries its number
abbrev pub HasNoEvents : {E : Type 0} → (E → Option ℕ) → Known E → Type 0
HasNoEvents {E} actor v =
    (p : ℕ) (e : E) → v.base ≤ p → slice_get v.seen p ≡ Some e → actor e ≡ Some v.number → ⊥

-- the seat's places ascend, and are of events that it has seen and that came since `new`
pub record HasPlaces {E : Type 0} (v : Known E) : Type 0 where
  pub ascend : IsStrictlyIncreasing v.mine
  pub within : (p : ℕ) → Contains v.mine p → (v.base ≤ p) × (p < length v.seen)

-- each event that carries a number carries this one
abbrev pub MayGive : {E : Type 0} → (E → Option ℕ) → ℕ → List E → Type 0
MayGive {E} actor number said = (e : E) (n : ℕ) → Contains said e → actor e ≡ Some n → n ≡ number

-- the value has had these events since the seat took it: one or none, and the seat may give it
pub record HasHad
    {V E : Type 0} (stands : V → List E → Type 0) (actor : E → Option ℕ)
    (v : Known E) (x : V) (said : List E) : Type 0 where
  pub value : stands x (v.seen ++ said)
  pub one : length said ≤ 1
  pub own : MayGive actor v.number said

-- a seat at this stage
abbrev pub at_stage : {E : Type 0} → Stage → Known E → Known E
at_stage stage v = record v { stage = stage }

-- the ticket behind the one that a seat at this stage is served with
abbrev pub ticket_after : Stage → ℕ
ticket_after (Serving ticket) = ticket + 1
ticket_after _ = 0

-- a seat whose turn is over
abbrev pub after_turn : {E : Type 0} → Known E → Known E
after_turn v = record v { stage = Idle; over = ticket_after v.stage }

-- a seat of this number that has seen this history and has no event of its own
abbrev pub unmarked : {E : Type 0} → ℕ → List E → Known E
unmarked number history = record {
  stage = Idle;
  over = 0;
  seen = history;
  told = [];
  mine = [];
  number = number;
  joined = [];
  seats = 0;
  base = 0;
}

-- the first seat of a lock whose value stands for this history
abbrev pub first_seat : {E : Type 0} → List E → Known E
first_seat history = record (unmarked 0 history) { seats = 1; base = length history }

-- a seat at this stage that has seen this history
abbrev pub having_seen : {E : Type 0} → Stage → List E → Known E → Known E
having_seen stage history v = record v { stage = stage; seen = history }

-- a seat through which these events were given
abbrev pub with_events : {E : Type 0} → List E → Known E → Known E
with_events es v = record v { seen = v.seen ++ es; mine = v.mine ++ places_from (length v.seen) es }

-- the first seat after a split
abbrev pub after_split : {E : Type 0} → Known E → Known E
after_split v = record v { seats = v.seats + 1 }

-- the seat that a split of the first one gives: it has seen as much, and its number is the next
abbrev pub newcomer : {E : Type 0} → Known E → Known E
newcomer v = record (unmarked v.seats v.seen) { over = v.over; base = v.base }

-- a seat into which another was joined
abbrev pub after_join : {E : Type 0} → Known E → Known E → Known E
after_join v w = record v {
  over = max v.over w.over;
  seen = longer v.seen w.seen;
  told = shorter v.seen w.seen;
  mine = merged v.mine w.mine;
  joined = v.joined ++ numbers w;
}

-- each event since `new` that the seat has seen is its own, and each just once, at ascending places
pub record HasWholeHistory {E : Type 0} (v : Known E) : Type 0 where
  pub each : (p : ℕ) → v.base ≤ p → p < length v.seen → Contains v.mine p
  pub once : length v.seen ≡ v.base + length v.mine
  pub places : HasPlaces v
