-- What stands at a step of a seat that is not fresh.
use Rattle.std.proofs.Common.{◌≡◌, ℕ, ◌≤◌, List, [], ◌∷◌, length, get_or, sym, ap, ◌∙◌, subst, ◌⊎◌, inl, inr, ⊎_elim, arith, Option, None}
use mathlib.Core.Option.{none, some}
use lib.ListN.{get_elem?}
use lib.Seq.{set-get_or}
use Rattle.atomic_table.specs.Table.{State, keeps, stepped}
use Rattle.atomic_table.proofs.Lists.{set_again}
use Rattle.turn_lock.specs.declared.known.Known.{Known}
use Rattle.turn_lock.specs.declared.stage.Stage.{Stage}
use Rattle.turn_lock.specs.declared.stage.Stage.TheVariants.{Fresh, Filling, Serving}
use Rattle.turn_lock.specs.Seat.{having_seen, at_stage}
use Rattle.turn_lock.specs.Account.{Roll, Account}
use Rattle.turn_lock.specs.Rule.{fresh, filling, HasTicket, Knows, IsAtHome, IsAway, AccountsFor, IsOpening, KeepsRule}
use Rattle.turn_lock.proofs.Lists.{at_once, alone}
use Rattle.turn_lock.proofs.Stages.{serves_at, serves_once}

-- the lock has its value at this stage of a seat
abbrev pub Begun : Stage → Type 0
Begun Fresh = ⊥
Begun Filling = ⊥
Begun _ = Unit {0}

module _ {V E : Type 0} (stands : V → List E → Type 0) (actor : E → Option ℕ) where
  abbrev Rule : State (Option V) (Known E) → Type 0
  Rule = KeepsRule stands actor

  -- a load that leaves the view as it is
  pub still : (s : State (Option V) (Known E)) (i id : ℕ) (v : Known E) (cs : List (ℕ × Option V)) → get_elem? s.views id ≡ some v → Rule s → Rule (stepped s i (get_or s.words i 0) id cs v keeps)
  still s i id v cs at r = subst (λ (z : List ℕ × List (Known E)). Rule record { words = z.0; homes = s.homes; views = z.1 }) (λ k. (sym (set-get_or s.words i 0) k, sym (set_again s.views id v at) k)) r

  -- before the lock has its value a seat is fresh or fills the slot
  opening_stage : (s : State (Option V) (Known E)) (id : ℕ) (v : Known E) → get_elem? s.views id ≡ some v → IsOpening stands actor s → (v ≡ fresh) ⊎ (v ≡ filling)
  opening_stage s id v at o = ⊎_elim
      (λ (t : (s.views ≡ fresh ∷ []) × (s.homes ≡ some None ∷ [])). inl (sym (alone fresh id v (subst (λ (z : List (Known E)). get_elem? z id ≡ some v) t.0 at)).1))
      (λ (t : (s.views ≡ filling ∷ []) × (s.homes ≡ none ∷ [])). inr (sym (alone filling id v (subst (λ (z : List (Known E)). get_elem? z id ≡ some v) t.0 at)).1)) o.1

  -- where a seat is neither, there is an account
  pub settled : (s : State (Option V) (Known E)) (id : ℕ) (v : Known E) → get_elem? s.views id ≡ some v → Begun v.stage → Rule s → (a : Account E) × AccountsFor stands actor a s
  settled s id v at b r = ⊎_elim (λ (o : IsOpening stands actor s). absurd (⊎_elim (λ e. subst Begun (ap (λ (z : Known E). z.stage) e) b) (λ e. subst Begun (ap (λ (z : Known E). z.stage) e) b) (opening_stage s id v at o)))
      (λ (k : (a : Account E) × AccountsFor stands actor a s). k) r

  -- the seat that is served has seen the whole history, and the slot is out with it
  pub turn_is : (a : Account E) (s : State (Option V) (Known E)) (k : AccountsFor stands actor a s) (id t : ℕ) (v : Known E) → get_elem? s.views id ≡ some v → v.stage ≡ Serving t → (v.seen ≡ a.history) × (s.homes ≡ none ∷ []) × (t ≡ a.queue.served) × (a.queue.taker a.queue.served ≡ id)
  turn_is a s k id t v at is = let h : HasTicket a.queue id (Serving t) = subst (HasTicket a.queue id) is (k.each id v at).ticket in
      let mine : a.queue.taker a.queue.served ≡ id = ap a.queue.taker (sym h.0) ∙ h.2 in ⊎_elim
      (λ (home : IsAtHome stands actor a s.homes s.views). absurd (home.3 id v at (serves_at v.stage t is)))
      (λ (away : IsAway stands actor a s.homes s.views). let u = away.1 in let o : Known E = u.1.0 in let same : u.0 ≡ id = serves_once a.queue id u.0 t o.stage mine (serves_at o.stage a.queue.served u.1.2.0) (k.each u.0 o u.1.1).ticket in
      (at_seen id u.0 v o (sym same) at u.1.1 ∙ u.1.2.1, away.0, h.0, mine)) k.value
    where
      at_seen : (i j : ℕ) (x y : Known E) → i ≡ j → get_elem? s.views i ≡ some x → get_elem? s.views j ≡ some y → x.seen ≡ y.seen
      at_seen i j x y e p q = ap (λ (z : Known E). z.seen) (at_once s.views i j x y e p q)

module _ {E : Type 0} where
  -- what a seat knows does not depend on its stage
  pub knows_at : (r : Roll) (j : ℕ) (g : Stage) (v : Known E) → Knows r j v → Knows r j (at_stage g v)
  knows_at r j g v k = record { from = k.from; mine = k.mine; ascends = k.ascends; numbers = k.numbers; count = k.count }

  -- what a seat knows after it has seen further
  pub knows_further : (r : Roll) (j : ℕ) (g : Stage) (h : List E) (v : Known E) → length v.seen ≤ length h → Knows r j v → Knows r j (having_seen g h v)
  knows_further r j g h v l k = record {
    from = k.from;
    mine = λ p has. let m = k.mine p has in let n = m.2 in (m.0, m.1, omega arith);
    ascends = k.ascends;
    numbers = k.numbers;
    count = k.count;
  }
