-- A seat ends its turn.
use Rattle.std.proofs.Common.{◌≡◌, ℕ, ◌+◌, ◌%◌, ◌^◌, List, [], ◌∷◌, length, set, sym, refl, ap, ◌∙◌, subst, inl, inr, arith, Option, Some, length-set}
use Rattle.std.specs.List.{Contains}
use mathlib.Core.Option.{none, some, some-injective}
use mathlib.Core.Option as maybe
use Rattle.atomic_table.specs.Table.{State, Me, step, gives, Allows}
use Rattle.turn_lock.specs.declared.known.Known.{Known}
use Rattle.turn_lock.specs.declared.stage.Stage.TheVariants.{Serving}
use Rattle.turn_lock.specs.Seat.{IsServing, after_turn, ticket_after}
use Rattle.turn_lock.specs.Account.{Account}
use Rattle.turn_lock.specs.Rule.{tickets_at, ticket_count, place_count, IsLive, Fits, AccountsFor, KeepsRule}
use Rattle.turn_lock.specs.Steps.{AfterPass}
use Rattle.turn_lock.proofs.Lists.{word1}
use Rattle.turn_lock.proofs.Stages.{is_live, tickets_are, after_pass, serves_once}
use Rattle.turn_lock.proofs.Views.{ticket_count_set, place_count_set, views_stay, seat_stays}
use Rattle.turn_lock.proofs.Standing.{Begun, settled, turn_is}

module _ {V E : Type 0} (stands : V → List E → Type 0) (actor : E → Option ℕ) where
  abbrev Rule : State (Option V) (Known E) → Type 0
  Rule = KeepsRule stands actor

  -- a seat that is served, with the value in hand, may bring it home and pass on
  passes_with : (slots id t : ℕ) (v : Known E) (x : V) → v.stage ≡ Serving t → stands x v.seen → Allows Rule slots id (v, (0, Some x) ∷ []) 1 (λ n. (n + 1) % 2 ^ 64) (AfterPass (step slots 1 1 0 none) (v, (0, Some x) ∷ []))
  passes_with slots id t v x is st s r deep at _ = let k = settled stands actor s id v at (subst Begun (sym is) tt) r in let a : Account E = k.0 in let q : AccountsFor stands actor a s = k.1 in let w : Known E = after_turn v in
      let a' : Account E = record a { queue = record a.queue { served = a.queue.served + 1 } } in let f : Fits a id v = q.each id v at in let live : IsLive v.stage = is_live v.stage (Serving t) is tt in
      let turn = turn_is stands actor a s q id t v at is in
      let one : tickets_at v.stage ≡ 1 = tickets_are v.stage (Serving t) is in
      let sum : ticket_count (set s.views id w) + tickets_at v.stage ≡ ticket_count s.views + 0 = ticket_count_set s.views id v w at in
      let ahead : a.queue.drawn ≡ a.queue.served + ticket_count s.views = q.tickets in (
        w,
        gives,
        tt,
        inr (
          a',
          record {
            words = word1 s.words (a.queue.drawn % 2 ^ 64) (a.queue.served % 2 ^ 64) (length a.history % 2 ^ 64) ((a.queue.served + 1) % 2 ^ 64) (λ n. (n + 1) % 2 ^ 64) q.words (omega arith);
            tickets = omega arith;
            counted = let m : place_count (set s.views id w) + length v.mine ≡ place_count s.views + length v.mine = place_count_set s.views id v w at in let c : a.roll.base + place_count s.views ≡ length a.history = q.counted in omega arith;
            seats = (length-set s.views id w ∙ q.seats.0, q.seats.1);
            long = q.long;
            each = views_stay (Fits a') s.views id w
                record { ticket = tt; seen = f.seen; told = f.told; over = let z : ticket_after v.stage ≡ t + 1 = ap ticket_after is in let b = turn.2 in omega arith; gone = λ b. absurd b; knows = λ _. let kn = f.knows live in record { from = kn.from; mine = kn.mine; ascends = kn.ascends; numbers = kn.numbers; count = kn.count } }
                (λ j d other there. let g : Fits a j d = q.each j d there in record { ticket = after_pass a.queue id j d.stage turn.3 other g.ticket; seen = g.seen; told = g.told; over = let l = g.over in omega arith; gone = g.gone; knows = g.knows });
            longest = seat_stays (λ (u : Known E). u.seen ≡ a.history) s.views id a.top v w at (λ e. e) q.longest;
            given = λ p low high. seat_stays (λ (u : Known E). Contains u.mine p) s.views id (a.roll.giver p) v w at (λ h. h) (q.given p low high);
            carried = q.carried;
            value = inl (
              x,
              ap (λ (z : List (maybe.Option (Option V))). set z 0 (some (Some x))) turn.1,
              subst (stands x) turn.0 st,
              views_stay (λ j u. IsServing u.stage → ⊥) s.views id w (λ b. b) (λ j d other there b. other (serves_once a.queue id j t d.stage turn.3 b (q.each j d there).ticket)),
            );
          },
        ),
        refl,
      )

  -- the same of a seat whose slot is known
  pub passes : (slots id t : ℕ) (me : Me (Option V) (Known E)) (x : V) → me.0.stage ≡ Serving t → me.1 ≡ (0, Some x) ∷ [] → stands x me.0.seen → Allows Rule slots id me 1 (λ n. (n + 1) % 2 ^ 64) (AfterPass (step slots 1 1 0 none) me)
  passes slots id t me x is held st = subst (λ (c : List (ℕ × Option V)). Allows Rule slots id (me.0, c) 1 (λ n. (n + 1) % 2 ^ 64) (AfterPass (step slots 1 1 0 none) (me.0, c))) (sym held) (passes_with slots id t me.0 x is st)
