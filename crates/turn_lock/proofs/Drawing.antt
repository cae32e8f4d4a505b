-- A seat draws a ticket.
use Rattle.std.proofs.Common.{◌≡◌, ℕ, ◌+◌, ◌%◌, ◌^◌, List, length, get_or, set, sym, refl, ap, ◌∙◌, subst, inl, inr, ⊎_elim, arith, Option, length-set}
use Rattle.std.specs.List.{Contains}
use mathlib.Core.Option.{none}
use Rattle.atomic_table.specs.Table.{State, Me, step, keeps, Allows}
use Rattle.turn_lock.specs.declared.known.Known.{Known}
use Rattle.turn_lock.specs.declared.stage.Stage.TheVariants.{Idle, Waiting, Serving}
use Rattle.turn_lock.specs.Seat.{IsServing, at_stage}
use Rattle.turn_lock.specs.Account.{Account}
use Rattle.turn_lock.specs.Rule.{tickets_at, ticket_count, place_count, Fits, IsAtHome, IsAway, AccountsFor, KeepsRule}
use Rattle.turn_lock.specs.Steps.{AfterDraw}
use Rattle.turn_lock.proofs.Functions.{put, put_here}
use Rattle.turn_lock.proofs.Lists.{word0}
use Rattle.turn_lock.proofs.Stages.{is_live, tickets_are, no_serve, serves_at, after_draw}
use Rattle.turn_lock.proofs.Views.{ticket_count_set, place_count_set, views_stay, seat_stays}
use Rattle.turn_lock.proofs.Standing.{Begun, settled, knows_at}

module _ {V E : Type 0} (stands : V → List E → Type 0) (actor : E → Option ℕ) where
  abbrev Rule : State (Option V) (Known E) → Type 0
  Rule = KeepsRule stands actor

  -- an idle seat may draw a ticket
  pub draws : (slots id : ℕ) (me : Me (Option V) (Known E)) → me.0.stage ≡ Idle → Allows Rule slots id me 0 (λ n. (n + 1) % 2 ^ 64) (AfterDraw (step slots 0 1 0 none) me)
  draws slots id me idle s r deep at _ = let k = settled stands actor s id me.0 at (subst Begun (sym idle) tt) r in let a : Account E = k.0 in let q : AccountsFor stands actor a s = k.1 in let v : Known E = me.0 in let w : Known E = at_stage (Waiting a.queue.drawn) v in
      let a' : Account E = record a { queue = record a.queue { drawn = a.queue.drawn + 1; taker = put a.queue.taker a.queue.drawn id } } in
      let f : Fits a id v = q.each id v at in
      let none_yet : tickets_at v.stage ≡ 0 = tickets_are v.stage Idle idle in
      let sum : ticket_count (set s.views id w) + tickets_at v.stage ≡ ticket_count s.views + 1 = ticket_count_set s.views id v w at in
      let ahead : a.queue.drawn ≡ a.queue.served + ticket_count s.views = q.tickets in (
        w,
        keeps,
        tt,
        inr (
          a',
          record {
            words = word0 s.words (a.queue.drawn % 2 ^ 64) (a.queue.served % 2 ^ 64) (length a.history % 2 ^ 64) ((a.queue.drawn + 1) % 2 ^ 64) (λ n. (n + 1) % 2 ^ 64) q.words (omega arith);
            tickets = omega arith;
            counted = let m : place_count (set s.views id w) + length v.mine ≡ place_count s.views + length v.mine = place_count_set s.views id v w at in let c : a.roll.base + place_count s.views ≡ length a.history = q.counted in omega arith;
            seats = (length-set s.views id w ∙ q.seats.0, q.seats.1);
            long = q.long;
            each = views_stay (Fits a') s.views id w
                record { ticket = (omega arith, omega arith, put_here a.queue.taker a.queue.drawn id a.queue.drawn refl); seen = f.seen; told = f.told; over = f.over; gone = λ b. absurd b; knows = λ _. knows_at a.roll id (Waiting a.queue.drawn) v (f.knows (is_live v.stage Idle idle tt)) }
                (λ j d other there. let g : Fits a j d = q.each j d there in record { ticket = after_draw a.queue id j d.stage g.ticket; seen = g.seen; told = g.told; over = g.over; gone = g.gone; knows = g.knows });
            longest = seat_stays (λ (u : Known E). u.seen ≡ a.history) s.views id a.top v w at (λ e. e) q.longest;
            given = λ p low high. seat_stays (λ (u : Known E). Contains u.mine p) s.views id (a.roll.giver p) v w at (λ h. h) (q.given p low high);
            carried = q.carried;
            value = ⊎_elim
                (λ (home : IsAtHome stands actor a s.homes s.views). inl (home.0, home.1, home.2, views_stay (λ j u. IsServing u.stage → ⊥) s.views id w (λ b. b) (λ j d _ there. home.3 j d there)))
                (λ (away : IsAway stands actor a s.homes s.views). let u = away.1 in inr (
                  away.0,
                  (
                    u.0,
                    seat_stays (λ (z : Known E). (z.stage ≡ Serving a.queue.served) × (z.seen ≡ a.history)) s.views id u.0 v w at
                        (λ t. absurd (no_serve v.stage Idle idle (λ b. b) (serves_at v.stage a.queue.served t.0))) u.1,
                  ),
                )) q.value;
          },
        ),
        (a.queue.drawn, refl, ap (λ (z : List ℕ). get_or z 0 0) q.words, (let l = f.over in omega arith)),
      )
