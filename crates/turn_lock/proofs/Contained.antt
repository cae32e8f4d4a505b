-- Elements of a list that is a first element and a rest.
use Rattle.std.proofs.Common.{◌≡◌, ℕ, zero, suc, ◌<◌, List, [], ◌∷◌, length, get_or, ◌⊎◌, inl, inr, ⊎_elim, arith}
use Rattle.std.specs.List.{Contains}

module _ {A : Type 0} where
  -- an empty list contains nothing
  pub contains_none : (x : A) → Contains [] x → ⊥
  contains_none x h = let below = h.1 in absurd (omega arith)

  -- a list contains its first element
  pub contains_first : (x y : A) (xs : List A) → x ≡ y → Contains (x ∷ xs) y
  contains_first x y xs e = (0, omega arith, e)

  -- and what its rest contains
  pub contains_next : (x : A) (xs : List A) (y : A) → Contains xs y → Contains (x ∷ xs) y
  contains_next x xs y h = let below = h.1 in (suc h.0, omega arith, h.2)

  -- and nothing else
  pub contains_cases : (x : A) (xs : List A) (y : A) → Contains (x ∷ xs) y → (x ≡ y) ⊎ Contains xs y
  contains_cases x xs y h = go h.0 h.1 h.2
    where
      go : (k : ℕ) → k < length (x ∷ xs) → get_or (x ∷ xs) k y ≡ y → (x ≡ y) ⊎ Contains xs y
      go zero below e = inl e
      go (suc k) below e = inr (k, omega arith, e)

  -- a list of one element contains that one
  pub contains_alone : (x y : A) → Contains (x ∷ []) y → x ≡ y
  contains_alone x y h = ⊎_elim {C = x ≡ y} (λ e. e) (λ none. absurd (contains_none y none)) (contains_cases x [] y h)
