-- A seat looks whether it is served.
use Rattle.std.proofs.Common.{◌≡◌, ℕ, ◌+◌, ◌%◌, ◌^◌, ◌<◌, ◌≤◌, List, ◌∷◌, length, get_or, set, sym, refl, ap, ◌∙◌, subst, inr, ⊎_elim, arith, Option, Some, length-set}
use Rattle.std.specs.List.{Contains}
use mathlib.Core.Option.{none, some, some-injective}
use mathlib.Core.Option as maybe
use mathlib.Core.Logic.{dite}
use native.Mathlib.Decide.{ℕ_discrete}
use lib.ListN.{get_elem?}
use lib.Seq.{set-get_or}
use Rattle.atomic_table.specs.Table.{State, Me, step, Act, keeps, takes, stepped, Valid, carried_after, Allows}
use Rattle.atomic_table.proofs.Lists.{set_here}
use Rattle.turn_lock.specs.declared.known.Known.{Known}
use Rattle.turn_lock.specs.declared.stage.Stage.TheVariants.{Waiting, Serving}
use Rattle.turn_lock.specs.Seat.{IsServing, HasOwnEvents, HasPlaces, having_seen}
use Rattle.turn_lock.specs.Account.{Account}
use Rattle.turn_lock.specs.Rule.{tickets_at, ticket_count, place_count, IsLive, HasTicket, Fits, IsAtHome, IsAway, AccountsFor, KeepsRule}
use Rattle.turn_lock.specs.Steps.{AfterLook}
use Rattle.turn_lock.proofs.Lists.{at_below, at_once, at_get}
use Rattle.turn_lock.proofs.Fronts.{front_whole, length_front}
use Rattle.turn_lock.proofs.Stages.{same_ticket, is_live, tickets_are, no_serve, serves_at, serves_once}
use Rattle.turn_lock.proofs.Views.{ticket_count_set, ticket_count_below, place_count_set, views_stay, seat_stays}
use Rattle.turn_lock.proofs.Standing.{Begun, still, settled, knows_further}

-- a ticket that is served, by its number modulo 2 ^ 64
pub served_is : (s t d n : ℕ) → s ≤ t → t < d → d ≡ s + n → n < 2 ^ 64 → s % 2 ^ 64 ≡ t % 2 ^ 64 → t ≡ s
served_is s t d n a b c e f = omega arith

module _ {V E : Type 0} (stands : V → List E → Type 0) (actor : E → Option ℕ) where
  abbrev Rule : State (Option V) (Known E) → Type 0
  Rule = KeepsRule stands actor

  -- the value is at home while the seat whose ticket is served waits
  pub home_at : (a : Account E) (s : State (Option V) (Known E)) (q : AccountsFor stands actor a s) (id t : ℕ) (v : Known E) → get_elem? s.views id ≡ some v → v.stage ≡ Waiting t → t ≡ a.queue.served → IsAtHome stands actor a s.homes s.views
  home_at a s q id t v at is served = let h : HasTicket a.queue id (Waiting t) = subst (HasTicket a.queue id) is (q.each id v at).ticket in ⊎_elim
      (λ (home : IsAtHome stands actor a s.homes s.views). home)
      (λ (away : IsAway stands actor a s.homes s.views). let u = away.1 in let o : Known E = u.1.0 in let mine : a.queue.taker a.queue.served ≡ id = ap a.queue.taker (sym served) ∙ h.2 in
      let same : u.0 ≡ id = serves_once a.queue id u.0 t o.stage mine (serves_at o.stage a.queue.served u.1.2.0) (q.each u.0 o u.1.1).ticket in
      let e : o ≡ v = at_once s.views u.0 id o v same u.1.1 at in absurd (no_serve v.stage (Waiting t) is (λ b. b) (subst (λ (z : Known E). IsServing z.stage) e (serves_at o.stage a.queue.served u.1.2.0)))) q.value

  -- each event that carries a number of a live seat stands at a place of its own
  complete_at : (a : Account E) (s : State (Option V) (Known E)) (q : AccountsFor stands actor a s) (id t : ℕ) (v : Known E) → get_elem? s.views id ≡ some v → IsLive v.stage → HasOwnEvents actor (having_seen (Serving t) a.history v)
  complete_at a s q id t v at live p n e low got is has = let there = at_get a.history p e got in let k = (q.each id v at).knows live in let f = k.from in let c = q.carried p n e (omega arith) there is in
      let g = q.given p (omega arith) (at_below a.history p e there) in let same : a.roll.giver p ≡ id = c.0 ∙ (k.numbers n has).0 in
      subst (λ (z : Known E). Contains z.mine p) (at_once s.views (a.roll.giver p) id g.0 v same g.1 at) g.2

  -- the places of a live seat ascend, and are of events that came
  placed_at : (a : Account E) (s : State (Option V) (Known E)) (q : AccountsFor stands actor a s) (id t : ℕ) (v : Known E) → get_elem? s.views id ≡ some v → IsLive v.stage → HasPlaces (having_seen (Serving t) a.history v)
  placed_at a s q id t v at live = let f : Fits a id v = q.each id v at in let k = f.knows live in let l = length_front a.history v.seen f.seen in
      record { ascend = k.ascends; within = λ p h. let m = k.mine p h in let low = m.1 in let high = m.2 in let b = k.from in (omega arith, omega arith) }

  -- a seat that waits takes the slot where its ticket is found
  looks_hit : (slots id t : ℕ) (me : Me (Option V) (Known E)) (s : State (Option V) (Known E)) (r : Rule s) (at : get_elem? s.views id ≡ some me.0) → me.0.stage ≡ Waiting t → get_or s.words 1 0 ≡ t % 2 ^ 64
      → (w : Known E) × (x : Act (Option V)) × Valid s.homes me.1 x × Rule (stepped s 1 (get_or s.words 1 0) id me.1 w x) × AfterLook stands actor (step slots 1 0 0 none) me (get_or s.words 1 0) (w, carried_after me.1 x)
  looks_hit slots id t me s r at is hit = let k = settled stands actor s id me.0 at (subst Begun (sym is) tt) r in let a : Account E = k.0 in let q : AccountsFor stands actor a s = k.1 in let v : Known E = me.0 in let w : Known E = having_seen (Serving t) a.history v in
      let f : Fits a id v = q.each id v at in let live : IsLive v.stage = is_live v.stage (Waiting t) is tt in
      let h : HasTicket a.queue id (Waiting t) = subst (HasTicket a.queue id) is f.ticket in
      let few : ticket_count s.views ≤ length s.views = ticket_count_below s.views in let b₀ = q.seats.0 in let b₁ = q.seats.1 in
      let word : a.queue.served % 2 ^ 64 ≡ t % 2 ^ 64 = sym (ap (λ (z : List ℕ). get_or z 1 0) q.words) ∙ hit in
      let served : t ≡ a.queue.served = served_is a.queue.served t a.queue.drawn (ticket_count s.views) h.0 h.1 q.tickets (omega arith) word in
      let home = home_at a s q id t v at is served in let x : V = home.0 in
      let sum : ticket_count (set s.views id w) + tickets_at v.stage ≡ ticket_count s.views + 1 = ticket_count_set s.views id v w at in let one : tickets_at v.stage ≡ 1 = tickets_are v.stage (Waiting t) is in
      let ahead : a.queue.drawn ≡ a.queue.served + ticket_count s.views = q.tickets in (
        w,
        takes 0 (Some x),
        ap (λ (z : List (maybe.Option (Option V))). get_elem? z 0) home.1,
        inr (
          a,
          record {
            words = set-get_or s.words 1 0 ∙ q.words;
            tickets = omega arith;
            counted = let m : place_count (set s.views id w) + length v.mine ≡ place_count s.views + length v.mine = place_count_set s.views id v w at in let c : a.roll.base + place_count s.views ≡ length a.history = q.counted in omega arith;
            seats = (length-set s.views id w ∙ q.seats.0, q.seats.1);
            long = q.long;
            each = views_stay (Fits a) s.views id w
                record { ticket = (served, h.1, h.2); seen = front_whole a.history; told = f.told; over = f.over; gone = λ b. absurd b; knows = λ _. knows_further a.roll id (Serving t) a.history v (length_front a.history v.seen f.seen) (f.knows live) }
                (λ j d _ there. q.each j d there);
            longest = seat_stays (λ (u : Known E). u.seen ≡ a.history) s.views id a.top v w at (λ _. refl) q.longest;
            given = λ p low high. seat_stays (λ (u : Known E). Contains u.mine p) s.views id (a.roll.giver p) v w at (λ e. e) (q.given p low high);
            carried = q.carried;
            value = inr (ap (λ (z : List (maybe.Option (Option V))). set z 0 none) home.1, (id, (w, set_here s.views id w (at_below s.views id v at), (ap Serving served, refl))));
          },
        ),
        λ t' is'. let same : t ≡ t' = same_ticket v.stage t t' is is' in (
          (λ _. (x, a.history, (λ i. (having_seen (Serving (same i)) a.history v, (0, Some x) ∷ me.1)), f.seen, home.2, complete_at a s q id t v at live, placed_at a s q id t v at live)),
          λ miss. absurd (miss (hit ∙ ap (λ (z : ℕ). z % 2 ^ 64) same)),
        ),
      )

  -- a seat that waits may look which ticket is served
  pub looks : (slots id t : ℕ) (me : Me (Option V) (Known E)) → me.0.stage ≡ Waiting t → Allows Rule slots id me 1 (λ n. n) (AfterLook stands actor (step slots 1 0 0 none) me)
  looks slots id t me is s r deep at _ = dite (ℕ_discrete (get_or s.words 1 0) (t % 2 ^ 64))
      (λ hit. looks_hit slots id t me s r at is hit)
      (λ miss. (me.0, keeps, tt, still stands actor s 1 id me.0 me.1 at r, λ t' is'. ((λ hit. absurd (miss (hit ∙ ap (λ (z : ℕ). z % 2 ^ 64) (sym (same_ticket me.0.stage t t' is is'))))), λ _. refl)))
