-- A newcomer is split off the first seat.
use Rattle.std.proofs.Common.{◌≡◌, ℕ, ◌+◌, ◌^◌, ◌<◌, List, [], ◌∷◌, ◌++◌, length, set, sym, refl, ap, ◌∙◌, subst, ◌⊎◌, inl, inr, ⊎_elim, arith, Option, length-set, length-append}
use Rattle.std.specs.List.{Contains}
use mathlib.Core.Option.{some}
use lib.ListN.{get_elem?}
use Rattle.atomic_table.specs.Table.{State, Splits}
use Rattle.atomic_table.proofs.Lists.{at_longer}
use Rattle.turn_lock.specs.declared.known.Known.{Known}
use Rattle.turn_lock.specs.declared.stage.Stage.TheVariants.{Idle, Serving}
use Rattle.turn_lock.specs.Seat.{IsServing, after_split, newcomer}
use Rattle.turn_lock.specs.Account.{Account}
use Rattle.turn_lock.specs.Rule.{tickets_at, ticket_count, place_count, Fits, IsAtHome, IsAway, AccountsFor, KeepsRule}
use Rattle.turn_lock.proofs.Functions.{put, put_here, put_else}
use Rattle.turn_lock.proofs.Lists.{at_below, at_push}
use Rattle.turn_lock.proofs.Contained.{contains_none, contains_first, contains_alone}
use Rattle.turn_lock.proofs.Stages.{is_live}
use Rattle.turn_lock.proofs.Views.{ticket_count_set, ticket_count_snoc, place_count_set, place_count_snoc, views_stay, seat_stays}
use Rattle.turn_lock.proofs.Standing.{Begun, settled}

module _ {V E : Type 0} (stands : V → List E → Type 0) (actor : E → Option ℕ) where
  abbrev Rule : State (Option V) (Known E) → Type 0
  Rule = KeepsRule stands actor

  -- the first seat, if it is idle, may split a newcomer off
  pub splits : (id : ℕ) (v : Known E) → v.stage ≡ Idle → v.number ≡ 0 → v.seats + 1 < 2 ^ 64 → Splits Rule id v (after_split v) (newcomer v)
  splits id v idle first room s r at = let k = settled stands actor s id v at (subst Begun (sym idle) tt) r in let a : Account E = k.0 in let q : AccountsFor stands actor a s = k.1 in let w : Known E = after_split v in let x : Known E = newcomer v in
      let f : Fits a id v = q.each id v at in let kn = f.knows (is_live v.stage Idle idle tt) in let many : v.seats ≡ a.roll.seats = kn.count first in
      let wide : length s.views ≡ a.roll.seats = q.seats.0 in let new : ℕ = length s.views in let o' : ℕ → ℕ = put a.roll.owner a.roll.seats new in
      let a' : Account E = record a { roll = record a.roll { seats = a.roll.seats + 1; owner = o' } } in let vs : List (Known E) = set s.views id w in
      let inside : id < length s.views = at_below s.views id v at in let long : length vs ≡ length s.views = length-set s.views id w in
      let mine0 : a.roll.owner 0 ≡ id = (kn.numbers 0 (contains_first v.number 0 v.joined first)).0 in let some_seat : 0 < a.roll.seats = (kn.numbers 0 (contains_first v.number 0 v.joined first)).1 in
      let ahead : a.queue.drawn ≡ a.queue.served + ticket_count s.views = q.tickets in
      let sum : ticket_count vs + tickets_at v.stage ≡ ticket_count s.views + tickets_at v.stage = ticket_count_set s.views id v w at in
      let total : ticket_count (vs ++ x ∷ []) ≡ ticket_count vs + 0 = ticket_count_snoc vs x in
      let same : (n : ℕ) → n < a.roll.seats → o' n ≡ a.roll.owner n = λ n l. put_else a.roll.owner a.roll.seats new n (λ z. omega arith) in
      let stays : (P : Known E → Type 0) (j : ℕ) → (P v → P w) → ((u : Known E) × (get_elem? s.views j ≡ some u) × P u) → (u : Known E) × (get_elem? (vs ++ x ∷ []) j ≡ some u) × P u = λ P j keep t.
      let z = seat_stays P s.views id j v w at keep t in (z.0, at_longer vs (x ∷ []) j z.0 z.1, z.2) in
      let seats_fit : (j : ℕ) (d : Known E) → get_elem? vs j ≡ some d → Fits a' j d = views_stay (Fits a') s.views id w
      record {
        ticket = f.ticket;
        seen = f.seen;
        told = f.told;
        over = f.over;
        gone = f.gone;
        knows = λ _. record { from = kn.from; mine = kn.mine; ascends = kn.ascends; numbers = λ n has. let m = kn.numbers n has in let b = m.1 in (same n m.1 ∙ m.0, omega arith); count = λ _. ap (λ (z : ℕ). z + 1) many };
      }
      (λ j d other there. let g : Fits a j d = q.each j d there in record {
        ticket = g.ticket;
        seen = g.seen;
        told = g.told;
        over = g.over;
        gone = g.gone;
        knows = λ alive. let kd = g.knows alive in record {
          from = kd.from;
          mine = kd.mine;
          ascends = kd.ascends;
          numbers = λ n has. let m = kd.numbers n has in let b = m.1 in (same n m.1 ∙ m.0, omega arith);
          count = λ z. absurd (other (sym (kd.numbers 0 (contains_first d.number 0 d.joined z)).0 ∙ mine0));
        };
      }) in
      inr (
        a',
        record {
          words = q.words;
          tickets = omega arith;
          counted = let m : place_count vs + length v.mine ≡ place_count s.views + length v.mine = place_count_set s.views id v w at in let n : place_count (vs ++ x ∷ []) ≡ place_count vs + 0 = place_count_snoc vs x in let c : a.roll.base + place_count s.views ≡ length a.history = q.counted in omega arith;
          seats = (length-append vs (x ∷ []) ∙ (let z : length vs + 1 ≡ a.roll.seats + 1 = omega arith in z), omega arith);
          long = q.long;
          each = λ j d there. ⊎_elim {C = Fits a' j d} (λ e. seats_fit j d e)
              (λ (t : (j ≡ length vs) × (x ≡ d)). subst (λ (z : ℕ × Known E). Fits a' z.0 z.1) (λ i. ((sym long ∙ sym t.0) i, t.1 i)) record {
                ticket = tt;
                seen = f.seen;
                told = (a.history, refl);
                over = f.over;
                gone = λ b. absurd b;
                knows = λ _. record {
                  from = kn.from;
                  mine = λ p has. absurd (contains_none p has);
                  ascends = λ k below. absurd (omega arith);
                  numbers = λ n has. let z : v.seats ≡ n = contains_alone v.seats n has in (put_here a.roll.owner a.roll.seats new n (sym z ∙ many), omega arith);
                  count = λ z. absurd (let z' : v.seats ≡ 0 = z in omega arith);
                };
              })
              (at_push vs x j d there);
          longest = stays (λ (u : Known E). u.seen ≡ a.history) a.top (λ e. e) q.longest;
          given = λ p low high. stays (λ (u : Known E). Contains u.mine p) (a.roll.giver p) (λ h. h) (q.given p low high);
          carried = λ p n e low there is. let c = q.carried p n e low there is in let b = c.1 in (c.0 ∙ sym (same n c.1), omega arith);
          value = ⊎_elim {C = IsAtHome stands actor a' s.homes (vs ++ x ∷ []) ⊎ IsAway stands actor a' s.homes (vs ++ x ∷ [])}
              (λ (home : IsAtHome stands actor a s.homes s.views). inl (
                home.0,
                home.1,
                home.2,
                λ j d there b. ⊎_elim {C = ⊥}
                    (λ e. views_stay (λ j u. IsServing u.stage → ⊥) s.views id w (λ z. home.3 id v at z) (λ j d _ e. home.3 j d e) j d e b)
                    (λ (t : (j ≡ length vs) × (x ≡ d)). subst (λ (z : Known E). IsServing z.stage) (sym t.1) b) (at_push vs x j d there),
              ))
              (λ (away : IsAway stands actor a s.homes s.views). let u = away.1 in inr (away.0, (u.0, stays (λ (z : Known E). (z.stage ≡ Serving a.queue.served) × (z.seen ≡ a.history)) u.0 (λ t. t) u.1))) q.value;
        },
      )
