-- Ascending lists of places.
use Rattle.std.proofs.Common.{◌≡◌, ◌≢◌, ℕ, zero, suc, ◌+◌, ◌<◌, ◌≤◌, Bool, true, false, cond, ltb, List, [], ◌∷◌, ◌++◌, length, get_or, refl, sym, subst, ◌⊎◌, inl, inr, ⊎_elim, arith}
use Rattle.std.proofs.lemmas.Bool.{ltb-true, ltb-false}
use Rattle.std.proofs.lemmas.List.Kept.{AllPairs-from_increasing}
use Rattle.std.proofs.lemmas.List.Elements.{Contains-append_cases}
use Rattle.std.specs.List.{Contains, AllPairs}
use Rattle.std.specs.List.Sorted.{IsStrictlyIncreasing}
use Rattle.turn_lock.specs.Lists.{with_place, merged}
use Rattle.turn_lock.proofs.Contained.{contains_none, contains_first, contains_next, contains_cases, contains_alone}

-- each number of the list is above n
abbrev Above : ℕ → List ℕ → Type 0
Above n [] = Unit {0}
Above n (p ∷ ps) = (n < p) × Above n ps

-- each number of the list is below all later ones
abbrev Ascends : List ℕ → Type 0
Ascends [] = Unit {0}
Ascends (p ∷ ps) = Above p ps × Ascends ps

-- each number of a list above n is above n
above_has : (n : ℕ) (ps : List ℕ) (x : ℕ) → Above n ps → Contains ps x → n < x
above_has n [] x a h = absurd (contains_none x h)
above_has n (p ∷ ps) x a h = ⊎_elim {C = n < x} (λ e. let l = a.0 in omega arith) (λ k. above_has n ps x a.1 k) (contains_cases p ps x h)

-- a list of numbers above n is above n
above_all : (n : ℕ) (ps : List ℕ) → ((x : ℕ) → Contains ps x → n < x) → Above n ps
above_all n [] f = tt
above_all n (p ∷ ps) f = (f p (contains_first p p ps refl), above_all n ps (λ x h. f x (contains_next p ps x h)))

-- a list ascends where each pair does
ascends_pairs : (ps : List ℕ) → AllPairs (λ p q. p < q) ps → Ascends ps
ascends_pairs [] f = tt
ascends_pairs (p ∷ ps) f = (
  above_all p ps (λ x h. let below = h.1 in subst (λ y. p < y) h.2 (f 0 (suc h.0) x (omega arith) (omega arith))),
  ascends_pairs ps (λ i j d later below. f (suc i) (suc j) d (omega arith) (omega arith)),
)

-- a strictly increasing list ascends
ascends_from : (ps : List ℕ) → IsStrictlyIncreasing ps → Ascends ps
ascends_from ps h = ascends_pairs ps (AllPairs-from_increasing ps h)

-- an ascending list is strictly increasing
increasing_from : (ps : List ℕ) → Ascends ps → IsStrictlyIncreasing ps
increasing_from [] a k l = absurd (omega arith)
increasing_from (p ∷ []) a k l = absurd (omega arith)
increasing_from (p ∷ (q ∷ qs)) a zero l = a.0.0
increasing_from (p ∷ (q ∷ qs)) a (suc k) l =
    let next : suc k + 1 ≡ suc (k + 1) = omega arith in
    subst (λ n. get_or (q ∷ qs) k 0 < get_or (p ∷ (q ∷ qs)) n 0) (sym next) (increasing_from (q ∷ qs) a.1 k (omega arith))

-- what holds of the list in both cases holds of `with_place`
with_place_case : (P : List ℕ → Type 0) (n p : ℕ) (ps : List ℕ) → (n < p → P (n ∷ (p ∷ ps))) → (p ≤ n → P (p ∷ with_place n ps)) → P (with_place n (p ∷ ps))
with_place_case P n p ps low high = go (ltb n p) refl
  where
    go : (b : Bool) → ltb n p ≡ b → P (cond b (n ∷ (p ∷ ps)) (p ∷ with_place n ps))
    go true e = low (ltb-true n p e)
    go false e = high (ltb-false n p e)

-- the list contains the number that was put in
with_place_here : (n : ℕ) (ps : List ℕ) → Contains (with_place n ps) n
with_place_here n [] = contains_first n n [] refl
with_place_here n (p ∷ ps) = with_place_case (λ l. Contains l n) n p ps (λ _. contains_first n n (p ∷ ps) refl) (λ _. contains_next p (with_place n ps) n (with_place_here n ps))

-- and what it contained before
with_place_keeps : (n : ℕ) (ps : List ℕ) (x : ℕ) → Contains ps x → Contains (with_place n ps) x
with_place_keeps n [] x h = absurd (contains_none x h)
with_place_keeps n (p ∷ ps) x h = with_place_case (λ l. Contains l x) n p ps (λ _. contains_next n (p ∷ ps) x h)
    (λ _. ⊎_elim {C = Contains (p ∷ with_place n ps) x} (λ e. contains_first p x (with_place n ps) e) (λ k. contains_next p (with_place n ps) x (with_place_keeps n ps x k)) (contains_cases p ps x h))

-- and nothing else
with_place_from : (n : ℕ) (ps : List ℕ) (x : ℕ) → Contains (with_place n ps) x → (n ≡ x) ⊎ Contains ps x
with_place_from n [] x = contains_cases n [] x
with_place_from n (p ∷ ps) x = with_place_case (λ l. Contains l x → (n ≡ x) ⊎ Contains (p ∷ ps) x) n p ps (λ _ h. contains_cases n (p ∷ ps) x h)
    (λ _ h. ⊎_elim {C = (n ≡ x) ⊎ Contains (p ∷ ps) x} (λ e. inr (contains_first p x ps e)) (λ k. ⊎_elim {C = (n ≡ x) ⊎ Contains (p ∷ ps) x} (λ e. inl e) (λ m. inr (contains_next p ps x m)) (with_place_from n ps x k)) (contains_cases p (with_place n ps) x h))

-- it ascends where the number was new
with_place_ascends : (n : ℕ) (ps : List ℕ) → Ascends ps → (Contains ps n → ⊥) → Ascends (with_place n ps)
with_place_ascends n [] a out = (tt, tt)
with_place_ascends n (p ∷ ps) a out = with_place_case Ascends n p ps
    (λ l. (above_all n (p ∷ ps) (λ x h. ⊎_elim {C = n < x} (λ e. omega arith) (λ k. let m = above_has p ps x a.0 k in omega arith) (contains_cases p ps x h)), a))
    (λ l. let other : p ≢ n = λ e. out (contains_first p n ps e) in
    (above_all p (with_place n ps) (λ x h. ⊎_elim {C = p < x} (λ e. omega arith) (above_has p ps x a.0) (with_place_from n ps x h)), with_place_ascends n ps a.1 (λ h. out (contains_next p ps n h))))

-- what an ascending list says of what was put into it
with_place_fresh : (n : ℕ) (ps : List ℕ) → Ascends (with_place n ps) → Ascends ps × (Contains ps n → ⊥)
with_place_fresh n [] = λ a. (tt, λ h. contains_none n h)
with_place_fresh n (p ∷ ps) = with_place_case (λ l. Ascends l → Ascends (p ∷ ps) × (Contains (p ∷ ps) n → ⊥)) n p ps
    (λ l a. (a.1, λ h. let m = above_has n (p ∷ ps) n a.0 h in omega arith))
    (λ l a. let r = with_place_fresh n ps a.1 in let m = above_has p (with_place n ps) n a.0 (with_place_here n ps) in
    ((above_all p ps (λ x h. above_has p (with_place n ps) x a.0 (with_place_keeps n ps x h)), r.0), λ h. ⊎_elim {C = ⊥} (λ e. omega arith) r.1 (contains_cases p ps n h)))

-- a merged list contains the numbers of the first list
pub merged_left : (ps qs : List ℕ) (x : ℕ) → Contains ps x → Contains (merged ps qs) x
merged_left [] qs x h = absurd (contains_none x h)
merged_left (p ∷ ps) qs x h = ⊎_elim {C = Contains (with_place p (merged ps qs)) x} (λ e. subst (Contains (with_place p (merged ps qs))) e (with_place_here p (merged ps qs))) (λ k. with_place_keeps p (merged ps qs) x (merged_left ps qs x k)) (contains_cases p ps x h)

-- and those of the second
pub merged_right : (ps qs : List ℕ) (x : ℕ) → Contains qs x → Contains (merged ps qs) x
merged_right [] qs x h = h
merged_right (p ∷ ps) qs x h = with_place_keeps p (merged ps qs) x (merged_right ps qs x h)

-- and no others
pub merged_either : (ps qs : List ℕ) (x : ℕ) → Contains (merged ps qs) x → Contains ps x ⊎ Contains qs x
merged_either [] qs x h = inr h
merged_either (p ∷ ps) qs x h = ⊎_elim {C = Contains (p ∷ ps) x ⊎ Contains qs x} (λ e. inl (contains_first p x ps e)) (λ k. ⊎_elim {C = Contains (p ∷ ps) x ⊎ Contains qs x} (λ m. inl (contains_next p ps x m)) (λ m. inr m) (merged_either ps qs x k)) (with_place_from p (merged ps qs) x h)

-- it ascends where no number stands in both
merged_ascends : (ps qs : List ℕ) → Ascends ps → Ascends qs → ((x : ℕ) → Contains ps x → Contains qs x → ⊥) → Ascends (merged ps qs)
merged_ascends [] qs a b apart = b
merged_ascends (p ∷ ps) qs a b apart = with_place_ascends p (merged ps qs) (merged_ascends ps qs a.1 b (λ x h k. apart x (contains_next p ps x h) k))
    (λ h. ⊎_elim {C = ⊥} (λ k. let m = above_has p ps p a.0 k in omega arith) (λ k. apart p (contains_first p p ps refl) k) (merged_either ps qs p h))

-- the same in std's words
pub merged_increasing : (ps qs : List ℕ) → IsStrictlyIncreasing ps → IsStrictlyIncreasing qs → ((x : ℕ) → Contains ps x → Contains qs x → ⊥) → IsStrictlyIncreasing (merged ps qs)
merged_increasing ps qs a b apart = increasing_from (merged ps qs) (merged_ascends ps qs (ascends_from ps a) (ascends_from qs b) apart)

-- where it ascends, no number stands in both
apart_from : (ps qs : List ℕ) → Ascends (merged ps qs) → (x : ℕ) → Contains ps x → Contains qs x → ⊥
apart_from [] qs a x h k = contains_none x h
apart_from (p ∷ ps) qs a x h k = let r = with_place_fresh p (merged ps qs) a in ⊎_elim {C = ⊥} (λ e. r.1 (subst (Contains (merged ps qs)) (sym e) (merged_right ps qs x k))) (λ m. apart_from ps qs r.0 x m k) (contains_cases p ps x h)

-- of lists whose merging ascends, no number stands in both
pub merged_apart : (ps qs : List ℕ) → IsStrictlyIncreasing (merged ps qs) → (x : ℕ) → Contains ps x → Contains qs x → ⊥
merged_apart ps qs a = apart_from ps qs (ascends_from (merged ps qs) a)

-- an ascending list with a greater number behind it ascends
push_ascends : (ps : List ℕ) (n : ℕ) → Ascends ps → ((x : ℕ) → Contains ps x → x < n) → Ascends (ps ++ n ∷ [])
push_ascends [] n a f = (tt, tt)
push_ascends (p ∷ ps) n a f = (above_all p (ps ++ n ∷ []) (λ x h. ⊎_elim {C = p < x} (above_has p ps x a.0) (λ k. let last = contains_alone n x k in let below = f p (contains_first p p ps refl) in omega arith) (Contains-append_cases ps (n ∷ []) x h)), push_ascends ps n a.1 (λ x h. f x (contains_next p ps x h)))

-- the same in std's words
pub push_increasing : (ps : List ℕ) (n : ℕ) → IsStrictlyIncreasing ps → ((x : ℕ) → Contains ps x → x < n) → IsStrictlyIncreasing (ps ++ n ∷ [])
push_increasing ps n a f = increasing_from (ps ++ n ∷ []) (push_ascends ps n (ascends_from ps a) f)

-- a number more
length-with_place : (n : ℕ) (ps : List ℕ) → length (with_place n ps) ≡ length ps + 1
length-with_place n [] = omega arith
length-with_place n (p ∷ ps) = with_place_case (λ l. length l ≡ length (p ∷ ps) + 1) n p ps (λ _. omega arith) (λ _. let r = length-with_place n ps in omega arith)

-- as many numbers as both have
pub length-merged : (ps qs : List ℕ) → length (merged ps qs) ≡ length ps + length qs
length-merged [] qs = omega arith
length-merged (p ∷ ps) qs = let r = length-merged ps qs in omega (arith, length-with_place p (merged ps qs))
