-- What the rule says of places and numbers at a moment.
use Rattle.std.proofs.Common.{◌≡◌, ℕ, ◌<◌, ◌≤◌, List, [], ◌∷◌, length, get_or, sym, refl, ap, ◌∙◌, subst, ⊎_elim, arith, append-nil, Option, None}
use Rattle.std.specs.List.{Contains}
use mathlib.Core.Option.{none, some}
use lib.ListN.{get_elem?}
use Rattle.atomic_table.specs.Table.{State}
use Rattle.turn_lock.specs.declared.known.Known.{Known}
use Rattle.turn_lock.specs.Seat.{numbers}
use Rattle.turn_lock.specs.Account.{Account}
use Rattle.turn_lock.specs.Rule.{blank, fresh, filling, place_count, IsLive, AccountsFor, IsOpening}
use Rattle.turn_lock.specs.declared.stage.Stage.{Stage}
use Rattle.turn_lock.specs.declared.stage.Stage.TheVariants.{Fresh, Filling}
use Rattle.turn_lock.specs.Laws.{IsSeat, ArePlaced, PlacesAreEvents, PlacesAreApart, NumbersAreCounted, NumbersAreApart}
use Rattle.turn_lock.proofs.Lists.{alone}
use Rattle.turn_lock.proofs.Contained.{contains_none, contains_alone}
use Rattle.turn_lock.proofs.Fronts.{length_front}
use Rattle.turn_lock.proofs.Stages.{live_or}

module _ {V E : Type 0} (stands : V → List E → Type 0) (actor : E → Option ℕ) where
  abbrev Moment : Type 0
  Moment = State (Option V) (Known E)

  -- before the lock has its value its one seat is blank
  blank_is : (s : Moment) → IsOpening stands actor s → (g : Stage) × (s.views ≡ blank g 1 ∷ [])
  blank_is s o = ⊎_elim {C = (g : Stage) × (s.views ≡ blank g 1 ∷ [])}
      (λ (t : (s.views ≡ fresh ∷ []) × (s.homes ≡ some None ∷ [])). (Fresh, t.0)) (λ (t : (s.views ≡ filling ∷ []) × (s.homes ≡ none ∷ [])). (Filling, t.0)) o.1

  module _ (s : Moment) (o : IsOpening stands actor s) where
    -- the one seat
    sole : (j : ℕ) (v : Known E) → IsSeat s j v → (j ≡ 0) × (blank (blank_is s o).0 1 ≡ v)
    sole j v at = let b = blank_is s o in alone (blank b.0 1) j v (subst (λ (z : List (Known E)). get_elem? z j ≡ some v) b.1 at)

    -- it has no place
    no_place : (j p : ℕ) (v : Known E) → IsSeat s j v → Contains v.mine p → ⊥
    no_place j p v at has = contains_none p (subst (λ (z : Known E). Contains z.mine p) (sym (sole j v at).1) has)

    -- and nothing was counted
    none_placed : ArePlaced s 0 []
    none_placed = let b = blank_is s o in record {
      seen = λ j v at. ([], ap (λ (z : Known E). z.seen) (sole j v at).1 ∙ sym (append-nil v.seen));
      longest = (0, (blank b.0 1, ap (λ (z : List (Known E)). get_elem? z 0) b.1, refl));
      events = ap (λ (z : List ℕ). get_or z 2 0) o.0;
      from = λ j v at live. sym (ap (λ (z : Known E). z.base) (sole j v at).1);
      within = λ j p v at has. absurd (no_place j p v at has);
      each = λ p low high. absurd (omega arith);
      counted = let e : place_count s.views ≡ 0 = ap (λ (z : List (Known E)). place_count z) b.1 in omega arith;
    }

    -- one seat is counted
    sole_counted : (j : ℕ) (v : Known E) → IsSeat s j v → ((n : ℕ) → Contains (numbers v) n → n < length s.views) × (v.number ≡ 0 → v.seats ≡ length s.views)
    sole_counted j v at = let b = blank_is s o in let wide : length s.views ≡ 1 = ap (λ (z : List (Known E)). length z) b.1 in let is = (sole j v at).1 in (
      λ n has. let e : 0 ≡ n = contains_alone 0 n (subst (λ (z : Known E). Contains (numbers z) n) (sym is) has) in omega arith,
      λ _. let e : 1 ≡ v.seats = ap (λ (z : Known E). z.seats) is in omega arith,
    )

  module _ (a : Account E) (s : Moment) (q : AccountsFor stands actor a s) where
    -- whose a place is, by the account
    place_in : (j p : ℕ) (v : Known E) → IsSeat s j v → Contains v.mine p → (a.roll.giver p ≡ j) × (a.roll.base ≤ p) × (p < length a.history)
    place_in j p v at has = ⊎_elim {C = (a.roll.giver p ≡ j) × (a.roll.base ≤ p) × (p < length a.history)}
        (λ live. let m = ((q.each j v at).knows live).mine p has in let high = m.2 in let l = length_front a.history v.seen (q.each j v at).seen in (m.0, m.1, omega arith))
        (λ dead. absurd (contains_none p (subst (λ (z : List ℕ). Contains z p) ((q.each j v at).gone dead).1 has)))
        (live_or v.stage)

    -- the places of all seats
    all_placed : ArePlaced s a.roll.base a.history
    all_placed = record {
      seen = λ j v at. (q.each j v at).seen;
      longest = (a.top, q.longest);
      events = ap (λ (z : List ℕ). get_or z 2 0) q.words;
      from = λ j v at live. ((q.each j v at).knows live).from;
      within = λ j p v at has. let m = place_in j p v at has in (m.1, m.2);
      each = λ p low high. (a.roll.giver p, q.given p low high);
      counted = q.counted;
    }

    -- the numbers of a seat
    all_counted : (j : ℕ) (v : Known E) → IsSeat s j v → IsLive v.stage → ((n : ℕ) → Contains (numbers v) n → n < length s.views) × (v.number ≡ 0 → v.seats ≡ length s.views)
    all_counted j v at live = let k = (q.each j v at).knows live in let wide = q.seats.0 in
        (λ n has. let m = (k.numbers n has).1 in omega arith, λ first. let m = k.count first in omega arith)

  -- the places are those of the events since the beginning
  pub places_events : PlacesAreEvents stands actor
  places_events s r = ⊎_elim {C = (base : ℕ) × (history : List E) × ArePlaced s base history}
      (λ (o : IsOpening stands actor s). (0, [], none_placed s o))
      (λ (k : (a : Account E) × AccountsFor stands actor a s). (k.0.roll.base, k.0.history, all_placed k.0 s k.1)) r

  -- no place is two seats'
  pub places_apart : PlacesAreApart stands actor
  places_apart s r i j p v w at there one two = ⊎_elim {C = i ≡ j}
      (λ (o : IsOpening stands actor s). absurd (no_place s o i p v at one))
      (λ (k : (a : Account E) × AccountsFor stands actor a s). sym (place_in k.0 s k.1 i p v at one).0 ∙ (place_in k.0 s k.1 j p w there two).0) r

  -- the numbers lie below the count
  pub numbers_counted : NumbersAreCounted stands actor
  numbers_counted s r j v at live = ⊎_elim {C = ((n : ℕ) → Contains (numbers v) n → n < length s.views) × (v.number ≡ 0 → v.seats ≡ length s.views)}
      (λ (o : IsOpening stands actor s). sole_counted s o j v at)
      (λ (k : (a : Account E) × AccountsFor stands actor a s). all_counted k.0 s k.1 j v at live) r

  -- no number is two seats'
  pub numbers_apart : NumbersAreApart stands actor
  numbers_apart s r i j n v w at there live alive one two = ⊎_elim {C = i ≡ j}
      (λ (o : IsOpening stands actor s). let x = (sole s o i v at).0 in let y = (sole s o j w there).0 in omega arith)
      (λ (k : (a : Account E) × AccountsFor stands actor a s). sym (((k.1.each i v at).knows live).numbers n one).0 ∙ (((k.1.each j w there).knows alive).numbers n two).0) r
