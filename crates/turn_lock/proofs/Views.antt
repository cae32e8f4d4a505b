-- The views of all seats.
use Rattle.std.proofs.Common.{◌≡◌, ◌≢◌, ℕ, zero, suc, ◌+◌, ◌≤◌, List, [], ◌∷◌, ◌++◌, length, set, sym, refl, ap, ◌∙◌, subst, ⊎_elim, arith}
use mathlib.Core.Option.{some, some-injective}
use mathlib.Core.Logic.{dite}
use native.Mathlib.Decide.{ℕ_discrete}
use lib.ListN.{get_elem?}
use Rattle.atomic_table.proofs.Lists.{at_set, set_here, set_else}
use Rattle.turn_lock.specs.declared.known.Known.{Known}
use Rattle.turn_lock.specs.declared.stage.Stage.{Stage}
use Rattle.turn_lock.specs.declared.stage.Stage.TheVariants.{Fresh, Filling, Idle, Waiting, Serving, Spent}
use Rattle.turn_lock.specs.Rule.{tickets_at, ticket_count, place_count}
use Rattle.turn_lock.proofs.Lists.{none_there, at_below}

-- a seat has one ticket at most
tickets_one : (g : Stage) → tickets_at g ≤ 1
tickets_one Fresh = omega arith
tickets_one Filling = omega arith
tickets_one Idle = omega arith
tickets_one (Waiting t) = omega arith
tickets_one (Serving t) = omega arith
tickets_one Spent = omega arith

module _ {E : Type 0} where
  -- the tickets after a seat changed
  pub ticket_count_set : (vs : List (Known E)) (j : ℕ) (v w : Known E) → get_elem? vs j ≡ some v → ticket_count (set vs j w) + tickets_at v.stage ≡ ticket_count vs + tickets_at w.stage
  ticket_count_set [] j v w e = absurd (none_there j v e)
  ticket_count_set (x ∷ xs) zero v w e = let s : tickets_at x.stage ≡ tickets_at v.stage = ap (λ (z : Known E). tickets_at z.stage) (some-injective x v e) in omega arith
  ticket_count_set (x ∷ xs) (suc j) v w e = let r = ticket_count_set xs j v w e in omega arith

  -- there are no more tickets than seats
  pub ticket_count_below : (vs : List (Known E)) → ticket_count vs ≤ length vs
  ticket_count_below [] = omega arith
  ticket_count_below (x ∷ xs) = let a = tickets_one x.stage in let r = ticket_count_below xs in omega arith

  -- the tickets with one seat more
  pub ticket_count_snoc : (vs : List (Known E)) (w : Known E) → ticket_count (vs ++ w ∷ []) ≡ ticket_count vs + tickets_at w.stage
  ticket_count_snoc [] w = omega arith
  ticket_count_snoc (x ∷ xs) w = let r = ticket_count_snoc xs w in omega arith

  -- the places after a seat changed
  pub place_count_set : (vs : List (Known E)) (j : ℕ) (v w : Known E) → get_elem? vs j ≡ some v → place_count (set vs j w) + length v.mine ≡ place_count vs + length w.mine
  place_count_set [] j v w e = absurd (none_there j v e)
  place_count_set (x ∷ xs) zero v w e = let s : length x.mine ≡ length v.mine = ap (λ (z : Known E). length z.mine) (some-injective x v e) in omega arith
  place_count_set (x ∷ xs) (suc j) v w e = let r = place_count_set xs j v w e in omega arith

  -- the places with one seat more
  pub place_count_snoc : (vs : List (Known E)) (w : Known E) → place_count (vs ++ w ∷ []) ≡ place_count vs + length w.mine
  place_count_snoc [] w = omega arith
  place_count_snoc (x ∷ xs) w = let r = place_count_snoc xs w in omega arith

  -- there are no places where no seat has one
  place_count_none : (vs : List (Known E)) → ((j : ℕ) (u : Known E) → get_elem? vs j ≡ some u → u.mine ≡ []) → place_count vs ≡ 0
  place_count_none [] f = refl
  place_count_none (x ∷ xs) f = let e : length x.mine ≡ 0 = ap (λ (z : List ℕ). length z) (f 0 x refl) in let r = place_count_none xs (λ j u e. f (suc j) u e) in omega arith

  -- where the others have none, the places are those of one
  pub place_count_one : (vs : List (Known E)) (id : ℕ) (v : Known E) → get_elem? vs id ≡ some v → ((j : ℕ) (u : Known E) → j ≢ id → get_elem? vs j ≡ some u → u.mine ≡ []) → place_count vs ≡ length v.mine
  place_count_one [] id v e f = absurd (none_there id v e)
  place_count_one (x ∷ xs) zero v e f = let s : length x.mine ≡ length v.mine = ap (λ (z : Known E). length z.mine) (some-injective x v e) in let r = place_count_none xs (λ j u k. f (suc j) u (λ z. omega arith) k) in omega arith
  place_count_one (x ∷ xs) (suc id) v e f = let s : length x.mine ≡ 0 = ap (λ (z : List ℕ). length z) (f 0 x (λ z. omega arith) refl) in let r = place_count_one xs id v e (λ j u n k. f (suc j) u (λ z. n (omega arith)) k) in omega arith

  -- each seat has K after the view of one was set
  pub views_stay : (K : ℕ → Known E → Type 0) (vs : List (Known E)) (id : ℕ) (w : Known E) → K id w → ((j : ℕ) (d : Known E) → j ≢ id → get_elem? vs j ≡ some d → K j d)
      → (j : ℕ) (d : Known E) → get_elem? (set vs id w) j ≡ some d → K j d
  views_stay K vs id w mine others j d e = ⊎_elim (λ (t : (j ≡ id) × (w ≡ d)). subst (λ (x : ℕ × Known E). K x.0 x.1) (λ i. (sym t.0 i, t.1 i)) mine)
      (λ (t : (j ≢ id) × (get_elem? vs j ≡ some d)). others j d t.0 t.1) (at_set vs id j w d e)

  -- a seat at j has P after the view of one was set, where P stays there
  pub seat_stays : (P : Known E → Type 0) (vs : List (Known E)) (id j : ℕ) (v w : Known E) → get_elem? vs id ≡ some v → (P v → P w) → ((u : Known E) × (get_elem? vs j ≡ some u) × P u)
      → (u : Known E) × (get_elem? (set vs id w) j ≡ some u) × P u
  seat_stays P vs id j v w at keep t = dite (ℕ_discrete j id)
      (λ e. (w, ap (get_elem? (set vs id w)) e ∙ set_here vs id w (at_below vs id v at), keep (subst P (some-injective t.0 v (sym t.1 ∙ (ap (get_elem? vs) e ∙ at))) t.2)))
      (λ n. (t.0, set_else vs id j w n ∙ t.1, t.2))
