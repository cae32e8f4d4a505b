-- A seat is joined into another.
use Rattle.std.proofs.Common.{◌≡◌, ◌≢◌, ℕ, ◌+◌, ◌<◌, ◌≤◌, List, length, set, sym, refl, ap, ◌∙◌, subst, ◌⊎◌, inl, inr, ⊎_elim, arith, Option, length-set}
use Rattle.std.specs.List.{Contains}
use Rattle.std.specs.List.Sorted.{IsStrictlyIncreasing}
use Rattle.std.proofs.lemmas.List.Elements.{Contains-append_cases}
use mathlib.Core.Option.{none, some}
use mathlib.Core.Logic.{dite}
use native.Mathlib.Decide.{ℕ_discrete}
use lib.ListN.{get_elem?}
use Rattle.atomic_table.specs.Table.{State, Me, step, keeps, Allows, Joins}
use Rattle.atomic_table.proofs.Lists.{set_here, set_else}
use Rattle.turn_lock.specs.declared.known.Known.{Known}
use Rattle.turn_lock.specs.declared.stage.Stage.TheVariants.{Idle, Serving}
use Rattle.turn_lock.specs.Lists.{IsFront, longer, shorter}
use Rattle.turn_lock.specs.Seat.{IsServing, HasOwnEvents, HasPlaces, numbers, newcomer, after_join}
use Rattle.turn_lock.specs.Account.{Account}
use Rattle.turn_lock.specs.Rule.{spent, tickets_at, ticket_count, place_count, IsLive, Fits, IsAtHome, IsAway, AccountsFor, KeepsRule}
use Rattle.turn_lock.specs.Steps.{AfterLearn}
use Rattle.turn_lock.proofs.Functions.{move, move_here, move_else}
use Rattle.turn_lock.proofs.Lists.{at_below, at_once, at_get}
use Rattle.turn_lock.proofs.Fronts.{front_at, front_of, front_same, longer_case}
use Rattle.turn_lock.proofs.Places.{merged_left, merged_right, merged_either, merged_increasing, length-merged}
use Rattle.turn_lock.proofs.Stages.{is_live, spent_at, tickets_are, no_serve, serves_at}
use Rattle.turn_lock.proofs.Views.{ticket_count_set, place_count_set, views_stay, seat_stays}
use Rattle.turn_lock.proofs.Standing.{Begun, still, settled}

module _ {V E : Type 0} (stands : V → List E → Type 0) (actor : E → Option ℕ) where
  abbrev Rule : State (Option V) (Known E) → Type 0
  Rule = KeepsRule stands actor

  -- places that ascend among those of the events since `new`
  placed : (v : Known E) → IsStrictlyIncreasing v.mine → ((p : ℕ) → Contains v.mine p → (v.base ≤ p) × (p < length v.seen)) → HasPlaces v
  placed v ascend within = record { ascend = ascend; within = within }

  -- each event that carries a number of a live seat stands at a place of its own
  own_at : (a : Account E) (s : State (Option V) (Known E)) (q : AccountsFor stands actor a s) (id : ℕ) (v : Known E) → get_elem? s.views id ≡ some v → IsLive v.stage → HasOwnEvents actor v
  own_at a s q id v at live p n e low got is has = let f : Fits a id v = q.each id v at in let k = f.knows live in let b = k.from in let there : get_elem? a.history p ≡ some e = front_at a.history v.seen p e f.seen (at_get v.seen p e got) in
      let c = q.carried p n e (omega arith) there is in let g = q.given p (omega arith) (at_below a.history p e there) in let same : a.roll.giver p ≡ id = c.0 ∙ (k.numbers n has).0 in
      subst (λ (z : Known E). Contains z.mine p) (at_once s.views (a.roll.giver p) id g.0 v same g.1 at) g.2

  -- an idle seat may learn that what it was told is a front of what it has seen, and which events are its own
  pub learns : (slots id : ℕ) (me : Me (Option V) (Known E)) → me.0.stage ≡ Idle → length me.0.told ≤ length me.0.seen → Allows Rule slots id me 0 (λ n. n) (AfterLearn actor (step slots 0 0 0 none) me)
  learns slots id me idle short s r deep at _ = let k = settled stands actor s id me.0 at (subst Begun (sym idle) tt) r in let a : Account E = k.0 in let q : AccountsFor stands actor a s = k.1 in let f : Fits a id me.0 = q.each id me.0 at in
      let live = is_live me.0.stage Idle idle tt in let kn = f.knows live in
      (me.0, keeps, tt, still stands actor s 0 id me.0 me.1 at r, (refl, front_of a.history me.0.seen me.0.told f.seen f.told short, placed me.0 kn.ascends (λ p h. let m = kn.mine p h in let low = m.1 in let high = m.2 in let from = kn.from in (omega arith, high)), own_at a s q id me.0 at live))

  -- of two fronts of a history both the longer and the shorter are fronts of it
  longer_front : (h xs ys : List E) → IsFront xs h → IsFront ys h → IsFront (longer xs ys) h × IsFront (shorter xs ys) h × (length xs ≤ length (longer xs ys)) × (length ys ≤ length (longer xs ys)) × (length (shorter xs ys) ≤ length (longer xs ys))
  longer_front h xs ys s t = longer_case (λ u v. IsFront u h × IsFront v h × (length xs ≤ length u) × (length ys ≤ length u) × (length v ≤ length u)) xs ys
      (λ l. (t, s, omega arith, omega arith, omega arith)) (λ l. (s, t, omega arith, omega arith, omega arith))

  -- an idle seat that isn't the first may be joined into another idle one
  pub joins : (id : ℕ) (v : Known E) (other : ℕ) (w : Known E) → v.stage ≡ Idle → w.stage ≡ Idle → w.number ≢ 0 → Joins Rule id v other w (after_join v w) spent
  joins id v other w idle idle' later s r at apart there' = let k = settled stands actor s id v at (subst Begun (sym idle) tt) r in let a : Account E = k.0 in let q : AccountsFor stands actor a s = k.1 in let b : Known E = after_join v w in
      let vs : List (Known E) = set s.views id b in let there : get_elem? s.views other ≡ some w = sym (set_else s.views id other b apart) ∙ there' in let us : List (Known E) = set vs other spent in
      let f : Fits a id v = q.each id v at in let g : Fits a other w = q.each other w there in let kv = f.knows (is_live v.stage Idle idle tt) in let kw = g.knows (is_live w.stage Idle idle' tt) in
      let m : ℕ → ℕ = move other id in
      let a' : Account E = record a { roll = record a.roll { owner = λ n. m (a.roll.owner n); giver = λ p. m (a.roll.giver p) }; top = m a.top } in
      let ls = longer_front a.history v.seen w.seen f.seen g.seen in
      let inside : id < length s.views = at_below s.views id v at in
      let zero_v : tickets_at v.stage ≡ 0 = tickets_are v.stage Idle idle in let zero_w : tickets_at w.stage ≡ 0 = tickets_are w.stage Idle idle' in
      let sum : ticket_count vs + tickets_at v.stage ≡ ticket_count s.views + tickets_at v.stage = ticket_count_set s.views id v b at in
      let sum' : ticket_count us + tickets_at w.stage ≡ ticket_count vs + 0 = ticket_count_set vs other w spent there' in
      let ahead : a.queue.drawn ≡ a.queue.served + ticket_count s.views = q.tickets in
      let here : get_elem? us id ≡ some b = set_else vs other id spent (λ z. apart (sym z)) ∙ set_here s.views id b inside in
      let keeps_id : (j : ℕ) → j ≡ id → m j ≡ id = λ j z. move_else other id j (λ y. apart (sym y ∙ z)) ∙ z in
      let stays : (P : Known E → Type 0) (j : ℕ) → (P v → P b) → (P w → P b) → ((u : Known E) × (get_elem? s.views j ≡ some u) × P u) → (u : Known E) × (get_elem? us (m j) ≡ some u) × P u = λ P j one two t. dite (ℕ_discrete j other)
      (λ z. (b, ap (get_elem? us) (move_here other id j z) ∙ here, two (subst P (at_once s.views j other t.0 w z t.1 there) t.2)))
      (λ z. let n = seat_stays P s.views id j v b at one t in (n.0, ap (get_elem? us) (move_else other id j z) ∙ (set_else vs other j spent z ∙ n.1), n.2)) in
      inr (
        a',
        record {
          words = q.words;
          tickets = omega arith;
          counted = let m : place_count vs + length v.mine ≡ place_count s.views + length b.mine = place_count_set s.views id v b at in let n : length b.mine ≡ length v.mine + length w.mine = length-merged v.mine w.mine in let o : place_count us + length w.mine ≡ place_count vs + 0 = place_count_set vs other w spent there' in let c : a.roll.base + place_count s.views ≡ length a.history = q.counted in omega arith;
          seats = (length-set vs other spent ∙ (length-set s.views id b ∙ q.seats.0), q.seats.1);
          long = q.long;
          each = views_stay (Fits a') vs other spent record { ticket = tt; seen = (a.history, refl); told = (a.history, refl); over = omega arith; gone = λ _. (refl, refl); knows = λ x. absurd x }
              (λ j d elsewhere e. dite (ℕ_discrete j id)
              (λ z. subst (λ (y : ℕ × Known E). Fits a' y.0 y.1) (λ i. (sym z i, at_once vs id j b d (sym z) (set_here s.views id b inside) e i)) record {
                ticket = f.ticket;
                seen = ls.0;
                told = ls.1;
                over = let x = f.over in let y = g.over in omega arith;
                gone = λ x. absurd (spent_at v.stage Idle idle x);
                knows = λ _. record {
                  from = kv.from;
                  mine = λ p has. ⊎_elim {C = (m (a.roll.giver p) ≡ id) × (a.roll.base ≤ p) × (p < length (longer v.seen w.seen))}
                      (λ o. let n = kv.mine p o in let c = n.2 in let l = ls.2 in (keeps_id (a.roll.giver p) n.0, n.1, omega arith))
                      (λ o. let n = kw.mine p o in let c = n.2 in let l = ls.3 in (move_here other id (a.roll.giver p) n.0, n.1, omega arith))
                      (merged_either v.mine w.mine p has);
                  ascends = merged_increasing v.mine w.mine kv.ascends kw.ascends (λ p o l. apart (sym (kw.mine p l).0 ∙ (kv.mine p o).0));
                  numbers = λ n has. ⊎_elim {C = (m (a.roll.owner n) ≡ id) × (n < a.roll.seats)}
                      (λ o. let c = kv.numbers n o in (keeps_id (a.roll.owner n) c.0, c.1))
                      (λ o. let c = kw.numbers n o in (move_here other id (a.roll.owner n) c.0, c.1))
                      (Contains-append_cases (numbers v) (numbers w) n has);
                  count = kv.count;
                };
              })
              (λ z. let e' : get_elem? s.views j ≡ some d = sym (set_else s.views id j b z) ∙ e in let h : Fits a j d = q.each j d e' in record {
                ticket = h.ticket;
                seen = h.seen;
                told = h.told;
                over = h.over;
                gone = h.gone;
                knows = λ alive. let kd = h.knows alive in record {
                  from = kd.from;
                  mine = λ p has. let n = kd.mine p has in (move_else other id (a.roll.giver p) (λ y. elsewhere (sym n.0 ∙ y)) ∙ n.0, n.1, n.2);
                  ascends = kd.ascends;
                  numbers = λ n has. let c = kd.numbers n has in (move_else other id (a.roll.owner n) (λ y. elsewhere (sym c.0 ∙ y)) ∙ c.0, c.1);
                  count = kd.count;
                };
              }));
          longest = stays (λ (u : Known E). u.seen ≡ a.history) a.top
              (λ z. let l = ls.2 in let n = ap (λ (y : List E). length y) z in front_same a.history (longer v.seen w.seen) ls.0 (omega arith))
              (λ z. let l = ls.3 in let n = ap (λ (y : List E). length y) z in front_same a.history (longer v.seen w.seen) ls.0 (omega arith)) q.longest;
          given = λ p low high. stays (λ (u : Known E). Contains u.mine p) (a.roll.giver p) (merged_left v.mine w.mine p) (merged_right v.mine w.mine p) (q.given p low high);
          carried = λ p n e low e' is. let c = q.carried p n e low e' is in (ap m c.0, c.1);
          value = ⊎_elim {C = IsAtHome stands actor a' s.homes us ⊎ IsAway stands actor a' s.homes us}
              (λ (home : IsAtHome stands actor a s.homes s.views). inl (
                home.0,
                home.1,
                home.2,
                views_stay (λ j u. IsServing u.stage → ⊥) vs other spent (λ x. x)
                    (λ j d _ e. views_stay (λ j u. IsServing u.stage → ⊥) s.views id b (λ x. home.3 id v at x) (λ j d _ e. home.3 j d e) j d e),
              ))
              (λ (away : IsAway stands actor a s.homes s.views). let u = away.1 in inr (
                away.0,
                (
                  m u.0,
                  stays (λ (z : Known E). (z.stage ≡ Serving a.queue.served) × (z.seen ≡ a.history)) u.0
                      (λ t. absurd (no_serve v.stage Idle idle (λ x. x) (serves_at v.stage a.queue.served t.0)))
                      (λ t. absurd (no_serve w.stage Idle idle' (λ x. x) (serves_at w.stage a.queue.served t.0))) u.1,
                ),
              )) q.value;
        },
      )

  -- the shorter of two lists is no longer than the longer
  pub shorter_below : (xs ys : List E) → length (shorter xs ys) ≤ length (longer xs ys)
  shorter_below xs ys = longer_case (λ u v. length v ≤ length u) xs ys (λ l. omega arith) (λ l. omega arith)

module _ {V E : Type 0} (stands : V → List E → Type 0) (actor : E → Option ℕ) where
  -- the same of a seat into which another was just joined
  pub learns_joined : (slots id : ℕ) (me : Me (Option V) (Known E)) (v w : Known E) → me.0 ≡ after_join v w → v.stage ≡ Idle → Allows (KeepsRule stands actor) slots id me 0 (λ n. n) (AfterLearn actor (step slots 0 0 0 none) me)
  learns_joined slots id me v w is idle = learns stands actor slots id me (ap (λ (z : Known E). z.stage) is ∙ idle) (subst (λ (z : Known E). length z.told ≤ length z.seen) (sym is) (shorter_below stands actor v.seen w.seen))

  -- the same of a seat that was just split off
  pub learns_new : (slots id : ℕ) (me : Me (Option V) (Known E)) (v : Known E) → me.0 ≡ newcomer v → Allows (KeepsRule stands actor) slots id me 0 (λ n. n) (AfterLearn actor (step slots 0 0 0 none) me)
  learns_new slots id me v is = learns stands actor slots id me (ap (λ (z : Known E). z.stage) is) (subst (λ (z : Known E). length z.told ≤ length z.seen) (sym is) (omega arith))
