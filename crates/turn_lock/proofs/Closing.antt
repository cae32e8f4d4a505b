-- The lock is closed.
use Rattle.std.proofs.Common.{◌≡◌, ℕ, ◌+◌, ◌<◌, ◌≤◌, List, [], ◌∷◌, length, sym, refl, ap, ◌∙◌, subst, ⊎_elim, arith, Option, Some}
use Rattle.std.specs.List.{Contains}
use mathlib.Core.Option.{none, some, some-injective}
use mathlib.Core.Option as maybe
use lib.ListN.{get_elem?}
use Rattle.atomic_table.specs.Table.{State, Final, Seen}
use Rattle.turn_lock.specs.declared.known.Known.{Known}
use Rattle.turn_lock.specs.declared.stage.Stage.TheVariants.{Idle, Serving}
use Rattle.turn_lock.specs.Seat.{IsServing, numbers, HasPlaces, HasWholeHistory}
use Rattle.turn_lock.specs.Account.{Account}
use Rattle.turn_lock.specs.Rule.{place_count, IsLive, Knows, IsAtHome, IsAway, AccountsFor, KeepsRule}
use Rattle.turn_lock.proofs.Lists.{at_once}
use Rattle.turn_lock.proofs.Contained.{contains_none, contains_first}
use Rattle.turn_lock.proofs.Fronts.{front_of_none}
use Rattle.turn_lock.proofs.Stages.{live_or, is_live, no_serve, serves_at}
use Rattle.turn_lock.proofs.Views.{place_count_one}
use Rattle.turn_lock.proofs.Standing.{Begun, settled}

module _ {V E : Type 0} (stands : V → List E → Type 0) (actor : E → Option ℕ) where
  abbrev Rule : State (Option V) (Known E) → Type 0
  Rule = KeepsRule stands actor

  module _ (a : Account E) (s : State (Option V) (Known E)) (q : AccountsFor stands actor a s) (id : ℕ) (v : Known E) (at : get_elem? s.views id ≡ some v) (idle : v.stage ≡ Idle) (first : v.number ≡ 0) (all : (n : ℕ) → n < v.seats → Contains (numbers v) n) where
    -- what the first seat knows is so
    knows_v : Knows a.roll id v
    knows_v = (q.each id v at).knows (is_live v.stage Idle idle tt)

    -- each seat that is not spent is this one
    the_one : (j : ℕ) (u : Known E) → get_elem? s.views j ≡ some u → IsLive u.stage → j ≡ id
    the_one j u e alive = let m = ((q.each j u e).knows alive).numbers u.number (contains_first u.number u.number u.joined refl) in let c = knows_v.count first in let b = m.1 in
        sym m.0 ∙ (knows_v.numbers u.number (all u.number (omega arith))).0

    -- it has seen the whole history
    whole : a.history ≡ v.seen
    whole = let t = q.longest in let u : Known E = t.0 in ⊎_elim {C = a.history ≡ v.seen}
        (λ alive. sym t.2 ∙ ap (λ (z : Known E). z.seen) (at_once s.views a.top id u v (the_one a.top u t.1 alive) t.1 at))
        (λ dead. let none_seen = ((q.each a.top u t.1).gone dead).0 in let e : a.history ≡ [] = sym t.2 ∙ none_seen in e ∙ sym (front_of_none a.history v.seen (q.each id v at).seen e))
        (live_or u.stage)

    -- each place is its own
    pub all_mine : (p : ℕ) → v.base ≤ p → p < length v.seen → Contains v.mine p
    all_mine p low high = let w = ap (λ (z : List E). length z) whole in let c = knows_v.from in let t = q.given p (omega arith) (omega arith) in let u : Known E = t.0 in ⊎_elim {C = Contains v.mine p}
        (λ alive. subst (λ (z : Known E). Contains z.mine p) (at_once s.views (a.roll.giver p) id u v (the_one (a.roll.giver p) u t.1 alive) t.1 at) t.2)
        (λ dead. let none_mine = ((q.each (a.roll.giver p) u t.1).gone dead).1 in absurd (contains_none p (subst (λ (z : List ℕ). Contains z p) none_mine t.2)))
        (live_or u.stage)

    -- it has as many places as there were events
    pub all_counted : length v.seen ≡ v.base + length v.mine
    all_counted = let one : place_count s.views ≡ length v.mine = place_count_one s.views id v at (λ j u other e. ⊎_elim {C = u.mine ≡ []} (λ alive. absurd (other (the_one j u e alive))) (λ dead. ((q.each j u e).gone dead).1) (live_or u.stage)) in
        let c : a.roll.base + place_count s.views ≡ length a.history = q.counted in let w : length a.history ≡ length v.seen = ap (λ (z : List E). length z) whole in let f = knows_v.from in omega arith

    -- its places ascend, among those of the events since `new`
    pub placed : HasPlaces v
    placed = record {
      ascend = knows_v.ascends;
      within = λ p h. let m = knows_v.mine p h in let low = m.1 in let high = m.2 in let f = knows_v.from in (omega arith, high);
    }

    -- the value is in the slot
    pub at_home : (x : V) × (s.homes ≡ some (Some x) ∷ []) × stands x v.seen
    at_home = ⊎_elim {C = (x : V) × (s.homes ≡ some (Some x) ∷ []) × stands x v.seen}
        (λ (home : IsAtHome stands actor a s.homes s.views). (home.0, home.1, subst (stands home.0) whole home.2))
        (λ (away : IsAway stands actor a s.homes s.views). let u = away.1 in let o : Known E = u.1.0 in let busy : IsServing o.stage = serves_at o.stage a.queue.served u.1.2.0 in
        let same = the_one u.0 o u.1.1 (is_live o.stage (Serving a.queue.served) u.1.2.0 tt) in
        absurd (no_serve v.stage Idle idle (λ x. x) (subst (λ (z : Known E). IsServing z.stage) (at_once s.views u.0 id o v same u.1.1 at) busy))) q.value

  -- a lock that is closed has its value at home, and the first seat, which has all numbers, has seen the whole history
  pub closes : (id : ℕ) (v known : Known E) (ws : List ℕ) (xs : List (Option V)) → known ≡ v → known.stage ≡ Idle → known.number ≡ 0 → ((n : ℕ) → n < known.seats → Contains (numbers known) n) → Final (Seen Rule id v) ws xs
      → ((x : V) × (get_elem? xs 0 ≡ some (Some x)) × stands x known.seen) × HasWholeHistory known
  closes id v known ws xs is idle first all final = let s : State (Option V) (Known E) = final.0 in
      let at : get_elem? s.views id ≡ some known = final.1.1 ∙ ap some (sym is) in let k = settled stands actor s id known at (subst Begun (sym idle) tt) final.1.0 in
      let h = at_home k.0 s k.1 id known at idle first all in (
        (h.0, final.4 0 (Some h.0) (ap (λ (z : List (maybe.Option (Option V))). get_elem? z 0) h.1), h.2),
        record { each = all_mine k.0 s k.1 id known at idle first all; once = all_counted k.0 s k.1 id known at idle first all; places = placed k.0 s k.1 id known at idle first all },
      )
