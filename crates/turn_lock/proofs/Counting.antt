-- A seat that is served counts its event.
use Rattle.std.proofs.Common.{◌≡◌, ◌≢◌, ℕ, ◌+◌, ◌%◌, ◌^◌, ◌<◌, ◌≤◌, List, [], ◌∷◌, ◌++◌, length, get_or, set, sym, refl, ap, ◌∙◌, subst, inr, ⊎_elim, arith, Option, Some, length-set, length-append, append-nil}
use Rattle.std.specs.List.{Contains}
use Rattle.std.proofs.lemmas.List.Elements.{Contains-append_left, Contains-append_right, Contains-append_cases}
use mathlib.Core.Option.{none, some}
use mathlib.Core.Logic.{dite}
use native.Mathlib.Decide.{ℕ_discrete}
use lib.ListN.{get_elem?}
use Rattle.atomic_table.specs.Table.{State, Me, step, keeps, Allows}
use Rattle.atomic_table.proofs.Lists.{set_here}
use Rattle.turn_lock.specs.declared.known.Known.{Known}
use Rattle.turn_lock.specs.declared.stage.Stage.TheVariants.{Serving}
use Rattle.turn_lock.specs.Seat.{IsServing, MayGive, with_events}
use Rattle.turn_lock.specs.Account.{Account}
use Rattle.turn_lock.specs.Rule.{tickets_at, ticket_count, place_count, IsLive, Fits, AccountsFor, KeepsRule}
use Rattle.turn_lock.specs.Steps.{AfterCheck, AfterCount}
use Rattle.turn_lock.proofs.Functions.{put, put_here, put_else}
use Rattle.turn_lock.proofs.Lists.{at_below, at_push, word2}
use Rattle.turn_lock.proofs.Contained.{contains_first, contains_alone}
use Rattle.turn_lock.proofs.Fronts.{front_longer, length_front}
use Rattle.turn_lock.proofs.Places.{push_increasing}
use Rattle.turn_lock.proofs.Stages.{is_live, spent_at, serving_is}
use Rattle.turn_lock.proofs.Views.{ticket_count_set, place_count_set, views_stay, seat_stays}
use Rattle.turn_lock.proofs.Standing.{Begun, still, settled, turn_is}

module _ {V E : Type 0} (stands : V → List E → Type 0) (actor : E → Option ℕ) where
  abbrev Rule : State (Option V) (Known E) → Type 0
  Rule = KeepsRule stands actor

  -- a seat that is served may read the count, which is that of what it has seen
  pub checks : (slots id t : ℕ) (me : Me (Option V) (Known E)) → me.0.stage ≡ Serving t → Allows Rule slots id me 2 (λ n. n) (AfterCheck (step slots 2 0 0 none) me)
  checks slots id t me is s r deep at _ = let k = settled stands actor s id me.0 at (subst Begun (sym is) tt) r in let a : Account E = k.0 in let q : AccountsFor stands actor a s = k.1 in
      (me.0, keeps, tt, still stands actor s 2 id me.0 me.1 at r, (refl, ap (λ (z : List ℕ). get_or z 2 0) q.words ∙ ap (λ (z : List E). length z % 2 ^ 64) (sym (turn_is stands actor a s q id t me.0 at is).0)))

  -- it may count an event that it may give
  counts_one : (e : E) (slots id t : ℕ) (me : Me (Option V) (Known E)) → me.0.stage ≡ Serving t → ((n : ℕ) → actor e ≡ Some n → n ≡ me.0.number) → Allows Rule slots id me 2 (λ n. (n + 1) % 2 ^ 64) (AfterCount (e ∷ []) (step slots 2 1 0 none) me)
  counts_one e slots id t me is own s r deep at _ = let k = settled stands actor s id me.0 at (subst Begun (sym is) tt) r in let a : Account E = k.0 in let q : AccountsFor stands actor a s = k.1 in let v : Known E = me.0 in let w : Known E = with_events (e ∷ []) v in
      let h' : List E = a.history ++ e ∷ [] in let last : ℕ = length a.history in let g' : ℕ → ℕ = put a.roll.giver last id in
      let a' : Account E = record a { history = h'; roll = record a.roll { giver = g' }; top = id } in let f : Fits a id v = q.each id v at in let live : IsLive v.stage = is_live v.stage (Serving t) is tt in
      let turn = turn_is stands actor a s q id t v at is in let seen : v.seen ≡ a.history = turn.0 in let wide : length v.seen ≡ last = ap (λ (z : List E). length z) seen in
      let kn = f.knows live in let longer' : length h' ≡ last + 1 = length-append a.history (e ∷ []) in
      let sum : ticket_count (set s.views id w) + tickets_at v.stage ≡ ticket_count s.views + tickets_at v.stage = ticket_count_set s.views id v w at in
      let ahead : a.queue.drawn ≡ a.queue.served + ticket_count s.views = q.tickets in let low_base : a.roll.base ≤ last = q.long in
      let inside : id < length s.views = at_below s.views id v at in
      let old : (j p : ℕ) (d : Known E) → get_elem? s.views j ≡ some d → IsLive d.stage → Contains d.mine p → (p < last) × (g' p ≡ a.roll.giver p) = λ j p d there alive has.
      let m = ((q.each j d there).knows alive).mine p has in let n = m.2 in let le = length_front a.history d.seen (q.each j d there).seen in let below : p < last = omega arith in (below, put_else a.roll.giver last id p (λ z. omega arith)) in (
        w,
        keeps,
        tt,
        inr (
          a',
          record {
            words = word2 s.words (a.queue.drawn % 2 ^ 64) (a.queue.served % 2 ^ 64) (last % 2 ^ 64) (length h' % 2 ^ 64) (λ n. (n + 1) % 2 ^ 64) q.words (omega arith);
            tickets = omega arith;
            counted = let m : place_count (set s.views id w) + length v.mine ≡ place_count s.views + length w.mine = place_count_set s.views id v w at in let n : length w.mine ≡ length v.mine + 1 = length-append v.mine (length v.seen ∷ []) in let c : a.roll.base + place_count s.views ≡ last = q.counted in omega arith;
            seats = (length-set s.views id w ∙ q.seats.0, q.seats.1);
            long = omega arith;
            each = views_stay (Fits a') s.views id w
                record {
                  ticket = f.ticket;
                  seen = ([], ap (λ (z : List E). z ++ e ∷ []) (sym seen) ∙ sym (append-nil (v.seen ++ e ∷ [])));
                  told = front_longer a.history v.told (e ∷ []) f.told;
                  over = f.over;
                  gone = λ b. absurd (spent_at v.stage (Serving t) is b);
                  knows = λ _. record {
                    from = kn.from;
                    mine = λ p has. ⊎_elim {C = (g' p ≡ id) × (a.roll.base ≤ p) × (p < length (v.seen ++ e ∷ []))}
                        (λ (o : Contains v.mine p). let m = kn.mine p o in let low = m.1 in let high = m.2 in ((old id p v at live o).1 ∙ m.0, low, omega (arith, length-append v.seen (e ∷ []))))
                        (λ (o : Contains (length v.seen ∷ []) p). let z : length v.seen ≡ p = contains_alone (length v.seen) p o in (put_here a.roll.giver last id p (omega arith), omega arith, omega (arith, length-append v.seen (e ∷ []))))
                        (Contains-append_cases v.mine (length v.seen ∷ []) p has);
                    ascends = push_increasing v.mine (length v.seen) kn.ascends (λ p o. (kn.mine p o).2);
                    numbers = kn.numbers;
                    count = kn.count;
                  };
                }
                (λ j d other there. let g : Fits a j d = q.each j d there in record {
                  ticket = g.ticket;
                  seen = front_longer a.history d.seen (e ∷ []) g.seen;
                  told = front_longer a.history d.told (e ∷ []) g.told;
                  over = g.over;
                  gone = g.gone;
                  knows = λ alive. let kd = g.knows alive in record { from = kd.from; mine = λ p has. let m = kd.mine p has in ((old j p d there alive has).1 ∙ m.0, m.1, m.2); ascends = kd.ascends; numbers = kd.numbers; count = kd.count };
                });
            longest = (w, set_here s.views id w inside, ap (λ (z : List E). z ++ e ∷ []) seen);
            given = λ p low high. dite (ℕ_discrete p last)
                (λ z. (w, ap (get_elem? (set s.views id w)) (put_here a.roll.giver last id p z) ∙ set_here s.views id w inside, Contains-append_right v.mine (length v.seen ∷ []) p (contains_first (length v.seen) p [] (wide ∙ sym z))))
                (λ n. subst (λ (j : ℕ). (u : Known E) × (get_elem? (set s.views id w) j ≡ some u) × Contains u.mine p) (sym (put_else a.roll.giver last id p n))
                (seat_stays (λ (u : Known E). Contains u.mine p) s.views id (a.roll.giver p) v w at (λ o. Contains-append_left v.mine (length v.seen ∷ []) p o) (q.given p low (omega arith))));
            carried = λ p n x low there is'. ⊎_elim {C = (g' p ≡ a.roll.owner n) × (n < a.roll.seats)}
                (λ (o : get_elem? a.history p ≡ some x). let c = q.carried p n x low o is' in let b = at_below a.history p x o in (put_else a.roll.giver last id p (λ z. omega arith) ∙ c.0, c.1))
                (λ (o : (p ≡ last) × (e ≡ x)). let m : n ≡ v.number = own n (ap actor o.1 ∙ is') in let c = kn.numbers n (contains_first v.number n v.joined (sym m)) in (put_here a.roll.giver last id p o.0 ∙ sym c.0, c.1))
                (at_push a.history e p x there);
            value = inr (turn.1, (id, (w, set_here s.views id w inside, (is ∙ ap Serving turn.2, ap (λ (z : List E). z ++ e ∷ []) seen))));
          },
        ),
        refl,
      )

  -- the same of a list of one event
  pub counts : (es : List E) (slots id : ℕ) (me : Me (Option V) (Known E)) → IsServing me.0.stage → length es ≡ 1 → MayGive actor me.0.number es → Allows Rule slots id me 2 (λ n. (n + 1) % 2 ^ 64) (AfterCount es (step slots 2 1 0 none) me)
  counts [] slots id me turn one own = absurd (omega arith)
  counts (e ∷ []) slots id me turn one own = let t = serving_is me.0.stage turn in counts_one e slots id t.0 me t.1 (λ n is. own e n (contains_first e e [] refl) is)
  counts (e ∷ (f ∷ es)) slots id me turn one own = absurd (omega arith)

-- whether an event came, by two counts modulo 2 ^ 64
pub none_came : {E : Type 0} (xs es : List E) (n : ℕ) → length es ≤ 1 → length (xs ++ es) % 2 ^ 64 ≡ n → n ≡ length xs % 2 ^ 64 → length es ≡ 0
none_came xs es n few e f = let l = length-append xs es in omega arith

-- an event came where the counts differ
pub one_came : {E : Type 0} (xs es : List E) (n m : ℕ) → length es ≤ 1 → length (xs ++ es) % 2 ^ 64 ≡ n → m ≡ length xs % 2 ^ 64 → n ≢ m → length es ≡ 1
one_came xs [] n m few e f other = absurd (other (sym e ∙ (ap (λ (z : List _). length z % 2 ^ 64) (append-nil xs) ∙ sym f)))
one_came xs (x ∷ es) n m few e f other = omega arith

-- no events change nothing
pub with_no_events : {E : Type 0} (es : List E) (v : Known E) → length es ≡ 0 → v ≡ with_events es v
with_no_events [] v e = λ i. record v { seen = sym (append-nil v.seen) i; mine = sym (append-nil v.mine) i }
with_no_events (x ∷ es) v e = absurd (omega arith)
