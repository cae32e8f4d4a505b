-- Histories, and places in them.
use Rattle.std.specs.Prelude.{◌≡◌, ℕ, ◌+◌, if◌then◌else◌, List, [], ◌∷◌, ◌++◌, length, nat_lt}

-- a list goes on from its front
abbrev pub IsFront : {E : Type 0} → List E → List E → Type 0
IsFront {E} front all = (rest : List E) × (all ≡ front ++ rest)

-- the longer one of two lists
abbrev pub longer : {E : Type 0} → List E → List E → List E
longer xs ys = if nat_lt (length xs) (length ys) then ys else xs

-- the other one
abbrev pub shorter : {E : Type 0} → List E → List E → List E
shorter xs ys = if nat_lt (length xs) (length ys) then xs else ys

-- the places of events that come behind the first n
abbrev pub places_from : {E : Type 0} → ℕ → List E → List ℕ
places_from n [] = []
places_from n (e ∷ es) = n ∷ places_from (n + 1) es

-- an ascending list with one number more, in its place
abbrev pub with_place : ℕ → List ℕ → List ℕ
with_place n [] = n ∷ []
with_place n (p ∷ ps) = if nat_lt n p then n ∷ (p ∷ ps) else p ∷ with_place n ps

-- two ascending lists as one
abbrev pub merged : List ℕ → List ℕ → List ℕ
merged [] qs = qs
merged (p ∷ ps) qs = with_place p (merged ps qs)
