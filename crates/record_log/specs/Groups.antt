-- Groups of records, each behind its gate.
use Rattle.std.specs.Prelude.{◌≢◌, ℕ, ◌+◌, ◌^◌, ◌<◌, List, [], ◌∷◌, ◌++◌, map, length}
use Rattle.record_log.specs.Counted.{counted_bytes}

-- a record: the length of its body, and the body
abbrev pub record_bytes : List ℕ → List ℕ
record_bytes body = counted_bytes 4 body

-- records one after another
abbrev pub records_bytes : List (List ℕ) → List ℕ
records_bytes [] = []
records_bytes (body ∷ bodies) = record_bytes body ++ records_bytes bodies

-- a group: an open gate, the length of its records, and these
abbrev pub group_bytes : List (List ℕ) → List ℕ
group_bytes bodies = 1 ∷ record_bytes (records_bytes bodies)

-- groups one after another
abbrev pub groups_bytes : List (List (List ℕ)) → List ℕ
groups_bytes [] = []
groups_bytes (group ∷ groups) = group_bytes group ++ groups_bytes groups

-- a group has a record, and its length fits four bytes
abbrev pub IsGroup : List (List ℕ) → Type 0
IsGroup bodies = (0 < length bodies) × (length (records_bytes bodies) < 2 ^ 32)

-- each of these is a group
abbrev pub AreGroups : List (List (List ℕ)) → Type 0
AreGroups [] = Unit {0}
AreGroups (group ∷ groups) = IsGroup group × AreGroups groups

-- no group stands at the front with a gate behind it
abbrev pub IsNoGroup : List ℕ → Type 0
IsNoGroup bytes = (group : List (List ℕ)) (gate : ℕ) (rest : List ℕ) → IsGroup group
    → bytes ≢ group_bytes group ++ gate ∷ rest

-- the bodies of the groups, each with the place of its group's gate, where the first gate stands at
-- this place
abbrev pub placed : ℕ → List (List (List ℕ)) → List (ℕ × List ℕ)
placed at [] = []
placed at (group ∷ groups) = map (λ body. (at, body)) group
    ++ placed (at + length (group_bytes group)) groups

-- the groups and one more, where that has any record
abbrev pub with_group : List (List (List ℕ)) → List (List ℕ) → List (List (List ℕ))
with_group groups [] = groups
with_group groups (body ∷ bodies) = groups ++ (body ∷ bodies) ∷ []
