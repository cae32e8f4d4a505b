-- Lists that are read by `get_elem?`, and three words.
use Rattle.std.proofs.Common.{◌≡◌, ℕ, zero, suc, ◌<◌, List, [], ◌∷◌, ◌++◌, length, get_or, set, sym, ap, ◌∙◌, ◌⊎◌, inl, inr, ⊎_elim, arith, refl, Option, Some, None}
use Rattle.std.proofs.lemmas.Option.{slice_get_within, get_or_from_slice_get}
use Rattle.std.specs.List.{slice_get}
use mathlib.Core.Option.{some, some-injective, some-ne-none}
use lib.ListN.{get_elem?}
use Rattle.atomic_table.proofs.Lists.{at_index}

module _ {A : Type 0} where
  -- an empty list has no element
  pub none_there : (k : ℕ) (x : A) → get_elem? [] k ≡ some x → ⊥
  none_there k x e = some-ne-none x (sym e)

  -- a place with an element is below the length
  pub at_below : (l : List A) (i : ℕ) (x : A) → get_elem? l i ≡ some x → i < length l
  at_below [] i x e = absurd (none_there i x e)
  at_below (y ∷ ys) zero x e = omega arith
  at_below (y ∷ ys) (suc i) x e = let r = at_below ys i x e in omega arith

  -- one place has one element
  pub at_once : (l : List A) (i j : ℕ) (x y : A) → i ≡ j → get_elem? l i ≡ some x → get_elem? l j ≡ some y → x ≡ y
  at_once l i j x y same p q = some-injective x y (sym p ∙ (ap (get_elem? l) same ∙ q))

  -- the element of a list of one
  pub alone : (x : A) (i : ℕ) (y : A) → get_elem? (x ∷ []) i ≡ some y → (i ≡ 0) × (x ≡ y)
  alone x zero y e = (refl, some-injective x y e)
  alone x (suc i) y e = absurd (none_there i y e)

  -- an element of a list with one more is in the list, or the last
  pub at_push : (l : List A) (a : A) (j : ℕ) (b : A) → get_elem? (l ++ a ∷ []) j ≡ some b → (get_elem? l j ≡ some b) ⊎ ((j ≡ length l) × (a ≡ b))
  at_push [] a j b e = inr (alone a j b e)
  at_push (x ∷ xs) a zero b e = inl e
  at_push (x ∷ xs) a (suc j) b e = ⊎_elim inl (λ (t : (j ≡ length xs) × (a ≡ b)). let n = t.0 in inr (omega arith, t.1)) (at_push xs a j b e)

  -- std's way to read a list against `get_elem?`
  pub at_get : (l : List A) (i : ℕ) (x : A) → slice_get l i ≡ Some x → get_elem? l i ≡ some x
  at_get l i x e = at_index l i x (slice_get_within l i x e) (sym (get_or_from_slice_get l i x x e))

-- what a list reads as after one of its three words is changed
pub word0 : (ws : List ℕ) (a b c x : ℕ) (f : ℕ → ℕ) → ws ≡ a ∷ b ∷ c ∷ [] → f a ≡ x → set ws 0 (f (get_or ws 0 0)) ≡ x ∷ b ∷ c ∷ []
word0 ws a b c x f e h = ap (λ (z : List ℕ). set z 0 (f (get_or z 0 0))) e ∙ ap (λ (z : ℕ). z ∷ b ∷ c ∷ []) h

-- the same of the second word
pub word1 : (ws : List ℕ) (a b c x : ℕ) (f : ℕ → ℕ) → ws ≡ a ∷ b ∷ c ∷ [] → f b ≡ x → set ws 1 (f (get_or ws 1 0)) ≡ a ∷ x ∷ c ∷ []
word1 ws a b c x f e h = ap (λ (z : List ℕ). set z 1 (f (get_or z 1 0))) e ∙ ap (λ (z : ℕ). a ∷ z ∷ c ∷ []) h

-- the same of the third
pub word2 : (ws : List ℕ) (a b c x : ℕ) (f : ℕ → ℕ) → ws ≡ a ∷ b ∷ c ∷ [] → f c ≡ x → set ws 2 (f (get_or ws 2 0)) ≡ a ∷ b ∷ x ∷ []
word2 ws a b c x f e h = ap (λ (z : List ℕ). set z 2 (f (get_or z 2 0))) e ∙ ap (λ (z : ℕ). a ∷ b ∷ z ∷ []) h

-- the value, or another one
abbrev some_or : {V : Type 0} → V → Option V → V
some_or d (Some x) = x
some_or d None = d

-- two values are the same where their options are
pub same_some : {V : Type 0} (x y : V) → Some x ≡ Some y → x ≡ y
same_some x y e = ap (some_or x) e
