-- Fronts of lists.
use Rattle.std.proofs.Common.{◌≡◌, ℕ, ◌<◌, ◌≤◌, Bool, true, false, cond, ltb, List, [], ◌∷◌, ◌++◌, length, sym, refl, ap, ◌∙◌, arith, append_assoc, append-nil, length-append}
use Rattle.std.proofs.lemmas.Bool.{ltb-true, ltb-false}
use mathlib.Core.Option.{some, some-injective}
use lib.ListN.{get_elem?}
use Rattle.atomic_table.proofs.Lists.{at_longer}
use Rattle.turn_lock.specs.Lists.{IsFront, longer, shorter}

module _ {A : Type 0} where
  -- a list is a front of itself
  pub front_whole : (xs : List A) → IsFront xs xs
  front_whole xs = ([], sym (append-nil xs))

  -- a front of a list is one of the list with more behind it
  pub front_longer : (h xs ys : List A) → IsFront xs h → IsFront xs (h ++ ys)
  front_longer h xs ys s = (s.0 ++ ys, ap (λ l. l ++ ys) s.1 ∙ append_assoc xs s.0 ys)

  -- what stands in a front stands in the list
  pub front_at : (h xs : List A) (i : ℕ) (x : A) → IsFront xs h → get_elem? xs i ≡ some x → get_elem? h i ≡ some x
  front_at h xs i x s at = ap (λ (l : List A). get_elem? l i) s.1 ∙ at_longer xs s.0 i x at

  -- a front is no longer
  pub length_front : (h xs : List A) → IsFront xs h → length xs ≤ length h
  length_front h xs s = let e : length h ≡ length (xs ++ s.0) = ap length s.1 in omega (arith, length-append xs s.0)

  -- equal lists have equal first elements
  cons_head : (x y : A) (xs ys : List A) → x ∷ xs ≡ y ∷ ys → x ≡ y
  cons_head x y xs ys e = some-injective x y (ap (λ l. get_elem? l 0) e)

  -- a list without its first element
  tail : List A → List A
  tail [] = []
  tail (x ∷ xs) = xs

  -- and equal rests
  cons_tail : (x y : A) (xs ys : List A) → x ∷ xs ≡ y ∷ ys → xs ≡ ys
  unfolding tail
  cons_tail x y xs ys e = ap tail e

  -- of two fronts of one list the shorter is a front of the longer
  two_fronts : (h xs ys r t : List A) → h ≡ xs ++ r → h ≡ ys ++ t → length ys ≤ length xs → IsFront ys xs
  two_fronts h xs [] r t e f l = (xs, refl)
  two_fronts h [] (y ∷ ys) r t e f l = absurd (omega arith)
  two_fronts [] (x ∷ xs) (y ∷ ys) r t e f l = let n : 0 ≡ length (x ∷ (xs ++ r)) = ap length e in absurd (omega arith)
  two_fronts (z ∷ h) (x ∷ xs) (y ∷ ys) r t e f l = let s = two_fronts h xs ys r t (cons_tail z x h (xs ++ r) e) (cons_tail z y h (ys ++ t) f) (omega arith) in
      (s.0, λ i. (sym (cons_head z x h (xs ++ r) e) ∙ cons_head z y h (ys ++ t) f) i ∷ s.1 i)

  -- the same of fronts
  pub front_of : (h xs ys : List A) → IsFront xs h → IsFront ys h → length ys ≤ length xs → IsFront ys xs
  front_of h xs ys s t l = two_fronts h xs ys s.0 t.0 s.1 t.1 l

  -- an empty list has an empty front
  no_rest : (xs r : List A) → [] ≡ xs ++ r → xs ≡ []
  no_rest [] r e = refl
  no_rest (x ∷ xs) r e = let n : 0 ≡ length (x ∷ (xs ++ r)) = ap length e in absurd (omega arith)

  -- the same of a list that is known to be empty
  pub front_of_none : (h xs : List A) → IsFront xs h → h ≡ [] → xs ≡ []
  front_of_none h xs s e = no_rest xs s.0 (sym e ∙ s.1)

  -- a front that is as long is the list
  pub front_same : (h xs : List A) → IsFront xs h → length h ≤ length xs → xs ≡ h
  front_same h xs s l = let t = front_of h xs h s (front_whole h) l in let n = length_front h xs s in let m : length xs ≡ length (h ++ t.0) = ap length t.1 in
      let k : length t.0 ≡ 0 = omega (arith, length-append h t.0) in t.1 ∙ (ap (λ l. h ++ l) (empty t.0 k) ∙ append-nil h)
    where
      empty : (l : List A) → length l ≡ 0 → l ≡ []
      empty [] e = refl
      empty (x ∷ xs) e = absurd (omega arith)

  -- what holds in both cases holds of the longer and the shorter list
  pub longer_case : (P : List A → List A → Type 0) (xs ys : List A) → (length xs < length ys → P ys xs) → (length ys ≤ length xs → P xs ys) → P (longer xs ys) (shorter xs ys)
  longer_case P xs ys up down = go (ltb (length xs) (length ys)) refl
    where
      go : (b : Bool) → ltb (length xs) (length ys) ≡ b → P (cond b ys xs) (cond b xs ys)
      go true e = up (ltb-true (length xs) (length ys) e)
      go false e = down (ltb-false (length xs) (length ys) e)
