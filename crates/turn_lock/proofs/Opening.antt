-- The steps before the lock has its value.
use Rattle.std.proofs.Common.{◌≡◌, ℕ, ◌%◌, ◌^◌, List, [], ◌∷◌, length, set, sym, refl, ap, ◌∙◌, subst, inl, inr, ⊎_elim, arith, Option, Some, None}
use mathlib.Core.Option.{none, some, some-injective}
use mathlib.Core.Option as maybe
use lib.ListN.{get_elem?}
use lib.Seq.{set-get_or}
use Rattle.atomic_table.specs.Table.{State, Me, step, takes, gives, Allows}
use Rattle.turn_lock.specs.declared.known.Known.{Known}
use Rattle.turn_lock.specs.declared.stage.Stage.{Stage}
use Rattle.turn_lock.specs.declared.stage.Stage.TheVariants.{Fresh, Filling}
use Rattle.turn_lock.specs.Seat.{IsServing, first_seat}
use Rattle.turn_lock.specs.Account.{Account}
use Rattle.turn_lock.specs.Rule.{fresh, filling, Fits, AccountsFor, IsOpening, KeepsRule}
use Rattle.turn_lock.specs.Steps.{AfterGrab, AfterBegin}
use Rattle.turn_lock.proofs.Lists.{at_below, alone}
use Rattle.turn_lock.proofs.Contained.{contains_none, contains_alone}
use Rattle.turn_lock.proofs.Fronts.{front_whole}

-- the stage of the first seat before it takes the slot
abbrev IsFresh : Stage → Type 0
IsFresh Fresh = Unit {0}
IsFresh _ = ⊥

-- the stage of the first seat with the slot in hand
abbrev IsFilling : Stage → Type 0
IsFilling Filling = Unit {0}
IsFilling _ = ⊥

module _ {V E : Type 0} (stands : V → List E → Type 0) (actor : E → Option ℕ) where
  abbrev Rule : State (Option V) (Known E) → Type 0
  Rule = KeepsRule stands actor

  -- where a seat is fresh, the lock is as it was made
  grab_at : (id : ℕ) (s : State (Option V) (Known E)) → Rule s → get_elem? s.views id ≡ some fresh → (s.words ≡ 0 ∷ 0 ∷ 0 ∷ []) × (s.views ≡ fresh ∷ []) × (s.homes ≡ some None ∷ []) × (id ≡ 0)
  grab_at id s r at = ⊎_elim
      (λ (o : IsOpening stands actor s). ⊎_elim
      (λ (t : (s.views ≡ fresh ∷ []) × (s.homes ≡ some None ∷ [])). (o.0, t.0, t.1, (alone fresh id fresh (subst (λ (z : List (Known E)). get_elem? z id ≡ some fresh) t.0 at)).0))
      (λ (t : (s.views ≡ filling ∷ []) × (s.homes ≡ none ∷ [])). absurd (subst IsFilling (ap (λ (z : Known E). z.stage) (alone filling id fresh (subst (λ (z : List (Known E)). get_elem? z id ≡ some fresh) t.0 at)).1) tt)) o.1)
      (λ (k : (a : Account E) × AccountsFor stands actor a s). absurd (k.1.each id fresh at).ticket) r

  -- a fresh seat may take the slot
  grabs_fresh : (slots id : ℕ) → Allows Rule slots id (fresh, []) 0 (λ n. n) (AfterGrab (step slots 0 0 0 none) (fresh, []))
  grabs_fresh slots id s r deep at _ = let o = grab_at id s r at in (
    filling,
    takes 0 None,
    ap (λ (z : List (maybe.Option (Option V))). get_elem? z 0) o.2,
    inl (set-get_or s.words 0 0 ∙ o.0, inr ((λ k. set (o.1 k) (o.3 k) filling), ap (λ (z : List (maybe.Option (Option V))). set z 0 none) o.2)),
    refl,
  )

  -- the same of a seat that is known to be fresh
  pub grabs : (slots id : ℕ) (me : Me (Option V) (Known E)) → me ≡ (fresh, []) → Allows Rule slots id me 0 (λ n. n) (AfterGrab (step slots 0 0 0 none) me)
  grabs slots id me is = subst (λ (m : Me (Option V) (Known E)). Allows Rule slots id m 0 (λ n. n) (AfterGrab (step slots 0 0 0 none) m)) (sym is) (grabs_fresh slots id)

  -- where a seat fills the slot, it is the only one and the slot is out
  begin_at : (id : ℕ) (s : State (Option V) (Known E)) → Rule s → get_elem? s.views id ≡ some filling → (s.words ≡ 0 ∷ 0 ∷ 0 ∷ []) × (s.views ≡ filling ∷ []) × (s.homes ≡ none ∷ []) × (id ≡ 0)
  begin_at id s r at = ⊎_elim
      (λ (o : IsOpening stands actor s). ⊎_elim
      (λ (t : (s.views ≡ fresh ∷ []) × (s.homes ≡ some None ∷ [])). absurd (subst IsFresh (ap (λ (z : Known E). z.stage) (alone fresh id filling (subst (λ (z : List (Known E)). get_elem? z id ≡ some filling) t.0 at)).1) tt))
      (λ (t : (s.views ≡ filling ∷ []) × (s.homes ≡ none ∷ [])). (o.0, t.0, t.1, (alone filling id filling (subst (λ (z : List (Known E)). get_elem? z id ≡ some filling) t.0 at)).0)) o.1)
      (λ (k : (a : Account E) × AccountsFor stands actor a s). absurd (k.1.each id filling at).ticket) r

  -- the account of a lock that has just got its value
  abbrev first_account : List E → Account E
  first_account h = record {
    history = h;
    queue = record { served = 0; drawn = 0; taker = λ _. 0 };
    roll = record { base = length h; seats = 1; owner = λ _. 0; giver = λ _. 0 };
    top = 0;
  }

  -- that account accounts for the lock with its value
  first_kept : (h : List E) (x : V) → stands x h → AccountsFor stands actor (first_account h) record { words = 0 ∷ 0 ∷ length h % 2 ^ 64 ∷ []; homes = some (Some x) ∷ []; views = first_seat h ∷ [] }
  first_kept h x st = record {
    words = refl;
    tickets = refl;
    counted = omega arith;
    seats = (refl, omega arith);
    long = omega arith;
    each = λ j v e. let t = alone (first_seat h) j v e in subst (λ (z : ℕ × Known E). Fits (first_account h) z.0 z.1) (λ i. (sym t.0 i, t.1 i)) record {
      ticket = tt;
      seen = front_whole h;
      told = (h, refl);
      over = omega arith;
      gone = λ b. absurd b;
      knows = λ _. record {
        from = refl;
        mine = λ p has. absurd (contains_none p has);
        ascends = λ k below. absurd (omega arith);
        numbers = λ n has. let z : 0 ≡ n = contains_alone 0 n has in (refl, omega arith);
        count = λ _. refl;
      };
    };
    longest = (first_seat h, refl, refl);
    given = λ p low high. absurd (omega arith);
    carried = λ p n e low there _. let b = at_below h p e there in absurd (omega arith);
    value = inl (x, refl, st, λ j v e s. subst (λ (z : Known E). IsServing z.stage) (sym (alone (first_seat h) j v e).1) s);
  }

  -- the first seat may bring the slot home with a value that stands for the history
  begins_filled : (h : List E) (slots id : ℕ) (x : V) → stands x h → Allows Rule slots id (filling, (0, Some x) ∷ []) 2 (λ _. length h % 2 ^ 64) (λ _. AfterBegin h (step slots 2 (length h % 2 ^ 64) 0 none) (filling, (0, Some x) ∷ []) (length h % 2 ^ 64))
  begins_filled h slots id x st s r deep at _ = let o = begin_at id s r at in (
    first_seat h,
    gives,
    tt,
    subst Rule (λ k. record { words = set (sym o.0 k) 2 (length h % 2 ^ 64); homes = set (sym o.2 k) 0 (some (Some x)); views = set (sym o.1 k) (sym o.3 k) (first_seat h) }) (inr (first_account h, first_kept h x st)),
    refl,
  )

  -- the same of a seat and a count that are known
  pub begins : (h : List E) (n slots id : ℕ) (me : Me (Option V) (Known E)) (x : V) → me ≡ (filling, (0, Some x) ∷ []) → stands x h → length h % 2 ^ 64 ≡ n → Allows Rule slots id me 2 (λ _. n) (λ _. AfterBegin h (step slots 2 n 0 none) me n)
  begins h n slots id me x is st long = subst (λ (z : ℕ × Me (Option V) (Known E)). Allows Rule slots id z.1 2 (λ _. z.0) (λ _. AfterBegin h (step slots 2 z.0 0 none) z.1 z.0)) (λ k. (long k, sym is k)) (begins_filled h slots id x st)
