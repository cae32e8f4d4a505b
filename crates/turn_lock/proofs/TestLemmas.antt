-- What the tests say of a value that is given back, and of a first seat into which two others were joined.
use Rattle.std.proofs.Common.{◌≡◌, ℕ, zero, suc, ◌<◌, ◌≤◌, Bool, true, false, cond, List, [], ◌∷◌, ◌++◌, length, sym, refl, ap, ◌∙◌, subst, ◌⊎◌, inl, inr, ⊎_elim, arith, append-nil, Option, Some}
use Rattle.std.specs.List.{Contains, slice_get}
use Rattle.std.proofs.lemmas.List.Elements.{Contains-append_left, Contains-append_right}
use Rattle.turn_lock.specs.declared.known.Known.{Known}
use Rattle.std.proofs.Math.Seq.{drop-append_seam}
use Rattle.turn_lock.specs.Tests.{Says}
use Rattle.turn_lock.specs.declared.stage.Stage.{Stage}
use Rattle.turn_lock.specs.declared.stage.Stage.TheVariants.{Fresh, Filling, Idle, Waiting, Serving, Spent}
use Rattle.turn_lock.specs.Seat.{IsServedFrom, ticket_after, after_turn, with_events, HasOwnEvents, MayGive, HasWholeHistory, numbers, after_join}
use Rattle.turn_lock.specs.Lists.{merged}
use Rattle.turn_lock.proofs.Lists.{same_some}
use Rattle.turn_lock.proofs.Contained.{contains_none, contains_first, contains_next, contains_alone}
use Rattle.turn_lock.proofs.Places.{merged_either}

module _ {E : Type 0} (actor : E → Option ℕ) where
  -- a seat may give back what it has seen with an event more
  says_of : (v : Known E) (said : List E) → length said ≤ 1 → MayGive actor v.number said → Says actor v (v.seen ++ said)
  says_of v said few own = record {
    whole = ap (λ l. v.seen ++ l) (drop-append_seam v.seen said);
    one = subst (λ (l : List E). length l ≤ 1) (sym (drop-append_seam v.seen said)) few;
    own = subst (λ (l : List E). MayGive actor v.number l) (sym (drop-append_seam v.seen said)) own;
  }

  -- an event was added, or wasn't, behind those that the seat has seen
  pub says : (b : Bool) (x : E) (old events : List E) (v : Known E) → v.seen ≡ old → events ≡ cond b (old ++ x ∷ []) old → actor x ≡ Some v.number → Says actor v events
  says true x old events v same is by = subst (Says actor v) ((λ i. same i ++ x ∷ []) ∙ sym is)
      (says_of v (x ∷ []) (omega arith) (λ e n h a. same_some n v.number (sym a ∙ (ap actor (sym (contains_alone x e h)) ∙ by))))
  says false x old events v same is by = subst (Says actor v) (append-nil v.seen ∙ (same ∙ sym is))
      (says_of v [] (omega arith) (λ e n h a. absurd (contains_none e h)))

  -- an event that carries the seat's number, and is the first since a lock was made with none, stands at a place of the seat's
  first_is_own : (v : Known E) (e : E) → HasOwnEvents actor v → v.base ≡ 0 → slice_get v.seen 0 ≡ Some e → actor e ≡ Some v.number → Contains v.mine 0
  first_is_own v e own zero_th got is = own 0 v.number e (omega arith) got is (contains_first v.number v.number v.joined refl)

  -- the same where that is known of the value that the seat took and gave back
  pub first_is_kept : (v w : Known E) (items : List E) (e : E) → w ≡ after_turn (with_events [] v) → HasOwnEvents actor v → v.base ≡ 0 → v.seen ≡ items → slice_get items 0 ≡ Some e → actor e ≡ Some v.number → Contains w.mine 0
  first_is_kept v w items e is own zero_th same got by = subst (λ (z : Known E). Contains z.mine 0) (sym is) (Contains-append_left v.mine [] 0
      (first_is_own v e own zero_th (subst (λ (z : List E). slice_get z 0 ≡ Some e) (sym same) got) by))

-- a turn comes after those that the seat knew to be over, and is over then
pub turn_comes_after : (n : ℕ) (g : Stage) → IsServedFrom n g → n < ticket_after g
turn_comes_after n (Serving t) from = omega arith
turn_comes_after n (Waiting t) from = absurd from
turn_comes_after n Fresh from = absurd from
turn_comes_after n Filling from = absurd from
turn_comes_after n Idle from = absurd from
turn_comes_after n Spent from = absurd from

module _ {E : Type 0} (u v w : Known E) where
  -- the numbers of a first seat into which the seats 1 and 2 were joined
  three_at : u.number ≡ 0 → v.number ≡ 1 → w.number ≡ 2 → (n : ℕ) → n < 3 → Contains (numbers (after_join (after_join u v) w)) n
  three_at d e f zero l = contains_first u.number 0 (after_join (after_join u v) w).joined d
  three_at d e f (suc zero) l = contains_next u.number (after_join (after_join u v) w).joined 1
      (Contains-append_left (u.joined ++ numbers v) (numbers w) 1 (Contains-append_right u.joined (numbers v) 1 (contains_first v.number 1 v.joined e)))
  three_at d e f (suc (suc zero)) l = contains_next u.number (after_join (after_join u v) w).joined 2
      (Contains-append_right (u.joined ++ numbers v) (numbers w) 2 (contains_first w.number 2 w.joined f))
  three_at d e f (suc (suc (suc n))) l = absurd (omega arith)

  -- the same of a seat that is known to be so
  pub three_numbers : (x : Known E) → x ≡ after_join (after_join u v) w → u.number ≡ 0 → v.number ≡ 1 → w.number ≡ 2 → u.seats ≡ 3 → (n : ℕ) → n < x.seats → Contains (numbers x) n
  three_numbers x is d e f three n l =
      let many : x.seats ≡ 3 = (λ i. (is i).seats) ∙ three in
      subst (λ (z : Known E). Contains (numbers z) n) (sym is) (three_at d e f n (omega arith))

  -- each place is one of the two seats'
  pub all_of_two : (x : Known E) (items : List E) → x ≡ after_join (after_join u v) w → u.mine ≡ [] → HasWholeHistory x → x.seen ≡ items → (p : ℕ) → u.base ≤ p → p < length items → Contains v.mine p ⊎ Contains w.mine p
  all_of_two x items is none whole seen p low high =
      let n = ap (λ (z : List E). length z) seen in let b : x.base ≡ u.base = ap (λ (z : Known E). z.base) is in
      let has = subst (λ (z : Known E). Contains z.mine p) is (whole.each p (omega arith) (omega arith)) in
      ⊎_elim {C = Contains v.mine p ⊎ Contains w.mine p}
      (λ first. ⊎_elim {C = Contains v.mine p ⊎ Contains w.mine p}
      (λ zero_th. absurd (contains_none p (subst (λ (z : List ℕ). Contains z p) none zero_th))) (λ second. inl second) (merged_either u.mine v.mine p first))
      (λ third. inr third) (merged_either (merged u.mine v.mine) w.mine p has)

  -- the numbers of a first seat into which the seat 1 was joined, and into that the seat 2
  chain_at : (a b c : List ℕ) → Contains a 0 → Contains b 1 → Contains c 2 → (n : ℕ) → n < 3 → Contains (a ++ (b ++ c)) n
  chain_at a b c d e f zero l = Contains-append_left a (b ++ c) 0 d
  chain_at a b c d e f (suc zero) l = Contains-append_right a (b ++ c) 1 (Contains-append_left b c 1 e)
  chain_at a b c d e f (suc (suc zero)) l = Contains-append_right a (b ++ c) 2 (Contains-append_right b c 2 f)
  chain_at a b c d e f (suc (suc (suc n))) l = absurd (omega arith)

  -- the same of a seat whose numbers are known to be so
  pub chain_numbers : (x : Known E) → numbers x ≡ numbers u ++ (numbers v ++ numbers w) → u.number ≡ 0 → v.number ≡ 1 → w.number ≡ 2 → x.seats ≡ 3 → (n : ℕ) → n < x.seats → Contains (numbers x) n
  chain_numbers x is d e f three n l = subst (λ (z : List ℕ). Contains z n) (sym is)
      (chain_at (numbers u) (numbers v) (numbers w) (contains_first u.number 0 u.joined d) (contains_first v.number 1 v.joined e) (contains_first w.number 2 w.joined f) n (omega arith))

  -- each place is one of the two seats' of which the one was joined into the other
  pub all_of_chain : (x y : Known E) (items : List E) → x.base ≡ u.base → u.mine ≡ [] → HasWholeHistory x → x.seen ≡ items → ((p : ℕ) → Contains x.mine p → Contains u.mine p ⊎ Contains y.mine p) → ((p : ℕ) → Contains y.mine p → Contains v.mine p ⊎ Contains w.mine p)
      → (p : ℕ) → u.base ≤ p → p < length items → Contains v.mine p ⊎ Contains w.mine p
  all_of_chain x y items from bare whole seen outer inner p low high = let n = ap (λ (z : List E). length z) seen in
      ⊎_elim {C = Contains v.mine p ⊎ Contains w.mine p} (λ h. absurd (contains_none p (subst (λ (z : List ℕ). Contains z p) bare h))) (λ h. inner p h) (outer p (whole.each p (omega arith) (omega arith)))
