-- What the rule says of turns at a moment.
use Rattle.std.proofs.Common.{◌≡◌, ◌≢◌, ℕ, ◌%◌, ◌^◌, ◌<◌, ◌≤◌, List, [], ◌∷◌, length, get_or, sym, refl, ap, ◌∙◌, subst, ◌⊎◌, inl, inr, ⊎_elim, arith, Option, Some, None}
use mathlib.Core.Option.{none, some, some-injective, some-ne-none}
use mathlib.Core.Option as maybe
use lib.ListN.{get_elem?}
use Rattle.atomic_table.specs.Table.{State}
use Rattle.turn_lock.specs.declared.known.Known.{Known}
use Rattle.turn_lock.specs.declared.stage.Stage.{Stage}
use Rattle.turn_lock.specs.declared.stage.Stage.TheVariants.{Fresh, Filling, Idle, Waiting, Serving, Spent}
use Rattle.turn_lock.specs.Lists.{IsFront}
use Rattle.turn_lock.specs.Seat.{IsServing}
use Rattle.turn_lock.specs.Account.{Queue, Account}
use Rattle.turn_lock.specs.Rule.{fresh, filling, ticket_count, HasTicket, IsAtHome, IsAway, AccountsFor, IsOpening, KeepsRule}
use Rattle.turn_lock.specs.Laws.{HasDrawn, IsSeat, ComesFirst, AllHaveSeen, NoneIsServed, AreCounted, TicketsAreCounted, TicketsAreApart, ServedComesFirst, ServedIsOne, FoundComesFirst, TurnHasSlot, OutIsTurn, HomeStands, TurnSeesAll}
use Rattle.turn_lock.proofs.Lists.{alone}
use Rattle.turn_lock.proofs.Stages.{serves_at, serving_is}
use Rattle.turn_lock.proofs.Looking.{served_is, home_at}
use Rattle.turn_lock.proofs.Views.{ticket_count_below}
use Rattle.turn_lock.proofs.Standing.{Begun, settled, turn_is}

-- a seat with a ticket is neither fresh nor about to bring the value in
drawn_begun : (t : ℕ) (g : Stage) → HasDrawn t g → Begun g
drawn_begun t (Waiting u) h = tt
drawn_begun t (Serving u) h = tt
drawn_begun t Fresh h = absurd h
drawn_begun t Filling h = absurd h
drawn_begun t Idle h = tt
drawn_begun t Spent h = tt

-- a seat that is served isn't either
served_begun : (g : Stage) → IsServing g → Begun g
served_begun (Waiting u) h = tt
served_begun (Serving u) h = tt
served_begun Fresh h = absurd h
served_begun Filling h = absurd h
served_begun Idle h = tt
served_begun Spent h = tt

-- the ticket of a seat was drawn by it, and isn't over
drawn_is : (q : Queue) (j t : ℕ) (g : Stage) → HasTicket q j g → HasDrawn t g → (q.served ≤ t) × (t < q.drawn) × (q.taker t ≡ j)
drawn_is q j t (Waiting u) h is = let a = h.0 in let b = h.1 in (omega arith, omega arith, ap q.taker (sym is) ∙ h.2)
drawn_is q j t (Serving u) h is = let a = h.0 in let b = h.1 in (omega arith, omega arith, ap q.taker (sym is) ∙ h.2)
drawn_is q j t Fresh h is = absurd is
drawn_is q j t Filling h is = absurd is
drawn_is q j t Idle h is = absurd is
drawn_is q j t Spent h is = absurd is

-- a seat that waits or is served has that ticket
has_waiting : (t : ℕ) (g : Stage) → g ≡ Waiting t → HasDrawn t g
has_waiting t g is = subst (HasDrawn t) (sym is) refl

has_serving : (t : ℕ) (g : Stage) → g ≡ Serving t → HasDrawn t g
has_serving t g is = subst (HasDrawn t) (sym is) refl

module _ {V E : Type 0} (stands : V → List E → Type 0) (actor : E → Option ℕ) where
  abbrev Rule : State (Option V) (Known E) → Type 0
  Rule = KeepsRule stands actor

  -- the ticket of a seat, by the account
  ticket_in : (a : Account E) (s : State (Option V) (Known E)) (q : AccountsFor stands actor a s) (j t : ℕ) (v : Known E) → IsSeat s j v → HasDrawn t v.stage → (a.queue.served ≤ t) × (t < a.queue.drawn) × (a.queue.taker t ≡ j)
  ticket_in a s q j t v at is = drawn_is a.queue j t v.stage (q.each j v at).ticket is

  -- no ticket is two seats'
  pub tickets_apart : TicketsAreApart stands actor
  tickets_apart s r i j t v w at there one two = let k = settled stands actor s i v at (drawn_begun t v.stage one) r in
      sym (ticket_in k.0 s k.1 i t v at one).2 ∙ (ticket_in k.0 s k.1 j t w there two).2

  -- the lowest ticket that isn't over comes first
  first_of_all : (a : Account E) (s : State (Option V) (Known E)) (q : AccountsFor stands actor a s) (i t : ℕ) (v : Known E) → IsSeat s i v → HasDrawn t v.stage → t ≡ a.queue.served → ComesFirst s i t
  first_of_all a s q i t v at one is j u w there two other = let mine = ticket_in a s q i t v at one in let its = ticket_in a s q j u w there two in
      let low = its.0 in let apart : t ≢ u = λ e. other (sym its.2 ∙ (ap a.queue.taker (sym e) ∙ mine.2)) in omega arith

  -- the seat that is served has the lowest ticket
  pub served_first : ServedComesFirst stands actor
  served_first s r i t v at is = let k = settled stands actor s i v at (served_begun v.stage (serves_at v.stage t is)) r in
      first_of_all k.0 s k.1 i t v at (has_serving t v.stage is) (turn_is stands actor k.0 s k.1 i t v at is).2

  -- two seats that are served drew the same ticket
  pub served_once : ServedIsOne stands actor
  served_once s r i j v w at there one two = let k = settled stands actor s i v at (served_begun v.stage one) r in let t = serving_is v.stage one in let u = serving_is w.stage two in
      sym (turn_is stands actor k.0 s k.1 i t.0 v at t.1).3 ∙ (turn_is stands actor k.0 s k.1 j u.0 w there u.1).3

  -- so has a seat that finds its ticket
  pub found_first : FoundComesFirst stands actor
  found_first s r i t v at is word = let one = has_waiting t v.stage is in let k = settled stands actor s i v at (drawn_begun t v.stage one) r in let a : Account E = k.0 in let q : AccountsFor stands actor a s = k.1 in
      let mine = ticket_in a s q i t v at one in let few : ticket_count s.views ≤ length s.views = ticket_count_below s.views in let b₀ = q.seats.0 in let b₁ = q.seats.1 in
      let served : t ≡ a.queue.served = served_is a.queue.served t a.queue.drawn (ticket_count s.views) mine.0 mine.1 q.tickets (omega arith) (sym (ap (λ (z : List ℕ). get_or z 1 0) q.words) ∙ word) in
      let home = home_at stands actor a s q i t v at is served in
      (first_of_all a s q i t v at one served, home.3, (home.0, a.history, home.1, home.2, λ j w there. (q.each j w there).seen))

  -- the slot is out in a turn
  pub turn_slot : TurnHasSlot stands actor
  turn_slot s r j v at turn = let k = settled stands actor s j v at (served_begun v.stage turn) r in let t = serving_is v.stage turn in (turn_is stands actor k.0 s k.1 j t.0 v at t.1).1

  -- a slot that is out isn't at home
  out_or_home : {A : Type 0} (x : A) (hs : List (maybe.Option A)) → hs ≡ none ∷ [] → hs ≡ some x ∷ [] → ⊥
  out_or_home x hs out home = some-ne-none x (ap (λ (z : List (maybe.Option _)). get_or z 0 none) (sym home ∙ out))

  -- and it is out only then, or before the lock has its value
  pub out_turn : OutIsTurn stands actor
  out_turn s r out = ⊎_elim {C = (j : ℕ) × ((v : Known E) × IsSeat s j v × (IsServing v.stage ⊎ (v.stage ≡ Filling)))}
      (λ (o : IsOpening stands actor s). ⊎_elim {C = (j : ℕ) × ((v : Known E) × IsSeat s j v × (IsServing v.stage ⊎ (v.stage ≡ Filling)))}
      (λ (t : (s.views ≡ fresh ∷ []) × (s.homes ≡ some None ∷ [])). absurd (out_or_home None s.homes out t.1))
      (λ (t : (s.views ≡ filling ∷ []) × (s.homes ≡ none ∷ [])). (0, (filling, ap (λ (z : List (Known E)). get_elem? z 0) t.0, inr refl))) o.1)
      (λ (k : (a : Account E) × AccountsFor stands actor a s). ⊎_elim {C = (j : ℕ) × ((v : Known E) × IsSeat s j v × (IsServing v.stage ⊎ (v.stage ≡ Filling)))}
      (λ (home : IsAtHome stands actor k.0 s.homes s.views). absurd (out_or_home (Some home.0) s.homes out home.1))
      (λ (away : IsAway stands actor k.0 s.homes s.views). let u = away.1 in (u.0, (u.1.0, u.1.1, inl (serves_at u.1.0.stage k.0.queue.served u.1.2.0)))) k.1.value) r

  -- the value that is in the slot is that of the account
  pub home_stands : HomeStands stands actor
  home_stands s r x is = ⊎_elim {C = NoneIsServed s × ((history : List E) × stands x history × AllHaveSeen s history)}
      (λ (o : IsOpening stands actor s). ⊎_elim {C = NoneIsServed s × ((history : List E) × stands x history × AllHaveSeen s history)}
      (λ (t : (s.views ≡ fresh ∷ []) × (s.homes ≡ some None ∷ [])). absurd (let e : None ≡ Some x = some-injective None (Some x) (ap (λ (z : List (maybe.Option (Option V))). get_or z 0 none) (sym t.1 ∙ is)) in cc))
      (λ (t : (s.views ≡ filling ∷ []) × (s.homes ≡ none ∷ [])). absurd (out_or_home (Some x) s.homes t.1 is)) o.1)
      (λ (k : (a : Account E) × AccountsFor stands actor a s). ⊎_elim {C = NoneIsServed s × ((history : List E) × stands x history × AllHaveSeen s history)}
      (λ (home : IsAtHome stands actor k.0 s.homes s.views). let e : Some home.0 ≡ Some x = some-injective (Some home.0) (Some x) (ap (λ (z : List (maybe.Option (Option V))). get_or z 0 none) (sym home.1 ∙ is)) in
      (home.3, (k.0.history, subst (λ (z : V). stands z k.0.history) (cc) home.2, λ j w there. (k.1.each j w there).seen)))
      (λ (away : IsAway stands actor k.0 s.homes s.views). absurd (out_or_home (Some x) s.homes away.0 is)) k.1.value) r

  -- a seat in its turn has seen all
  pub turn_sees : TurnSeesAll stands actor
  turn_sees s r j v at turn = let k = settled stands actor s j v at (served_begun v.stage turn) r in let t = serving_is v.stage turn in let seen : v.seen ≡ k.0.history = (turn_is stands actor k.0 s k.1 j t.0 v at t.1).0 in (
    λ i w there. subst (λ (z : List E). IsFront w.seen z) (sym seen) (k.1.each i w there).seen,
    ap (λ (z : List ℕ). get_or z 2 0) k.1.words ∙ ap (λ (z : List E). length z % 2 ^ 64) (sym seen),
  )

  -- before the lock has its value no ticket was drawn
  none_counted : (s : State (Option V) (Known E)) (x : Known E) → s.words ≡ 0 ∷ 0 ∷ 0 ∷ [] → s.views ≡ x ∷ [] → (Begun x.stage → ⊥) → ticket_count (x ∷ []) ≡ 0 → x.over ≡ 0 → AreCounted s 0 0
  none_counted s x words views early few new = record {
    next = ap (λ (z : List ℕ). get_or z 0 0) words;
    served = ap (λ (z : List ℕ). get_or z 1 0) words;
    held = let e : ticket_count s.views ≡ 0 = ap (λ (z : List (Known E)). ticket_count z) views ∙ few in omega arith;
    each = λ j t v at is. absurd (early (drawn_begun t x.stage (subst (λ (z : Known E). HasDrawn t z.stage) (sym (the_one j v at)) is)));
    turn = λ j t v at is. absurd (early (drawn_begun t x.stage (subst (λ (z : Known E). HasDrawn t z.stage) (sym (the_one j v at)) (has_serving t v.stage is))));
    known = λ j v at. let e : v.over ≡ x.over = ap (λ (z : Known E). z.over) (sym (the_one j v at)) in omega arith;
  }
    where
      the_one : (j : ℕ) (v : Known E) → IsSeat s j v → x ≡ v
      the_one j v at = (alone x j v (subst (λ (z : List (Known E)). get_elem? z j ≡ some v) views at)).1

  -- the words count the tickets
  pub tickets_counted : TicketsAreCounted stands actor
  tickets_counted s r = ⊎_elim {C = (over : ℕ) × (drawn : ℕ) × AreCounted s over drawn}
      (λ (o : IsOpening stands actor s). ⊎_elim {C = (over : ℕ) × (drawn : ℕ) × AreCounted s over drawn}
      (λ (t : (s.views ≡ fresh ∷ []) × (s.homes ≡ some None ∷ [])). (0, 0, none_counted s fresh o.0 t.0 (λ b. b) refl refl))
      (λ (t : (s.views ≡ filling ∷ []) × (s.homes ≡ none ∷ [])). (0, 0, none_counted s filling o.0 t.0 (λ b. b) refl refl)) o.1)
      (λ (k : (a : Account E) × AccountsFor stands actor a s). (
        k.0.queue.served,
        k.0.queue.drawn,
        record {
          next = ap (λ (z : List ℕ). get_or z 0 0) k.1.words;
          served = ap (λ (z : List ℕ). get_or z 1 0) k.1.words;
          held = k.1.tickets;
          each = λ j t v at is. let h = ticket_in k.0 s k.1 j t v at is in (h.0, h.1);
          turn = λ j t v at is. (turn_is stands actor k.0 s k.1 j t v at is).2;
          known = λ j v at. (k.1.each j v at).over;
        },
      )) r
