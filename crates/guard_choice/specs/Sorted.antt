-- Chosen keys in a sorted list.
use Rattle.std.specs.Prelude.{ℕ, suc, min, if◌then◌else◌, List, [], ◌∷◌, length, Option, Some, None}
use Rattle.peb_base.specs.Keys.{Bytes, key_lt, key_eq}
use Rattle.flsm_model.specs.declared.chosen.Chosen.{Chosen}

-- how many of the first keys come before this one
abbrev pub place_in : Bytes → List Chosen → ℕ
place_in key [] = 0
place_in key (c ∷ cs) = if key_lt c.key key then suc (place_in key cs) else 0

-- how many of the first keys come before the end of a range, if it has one
abbrev pub end_in : Option Bytes → List Chosen → ℕ
end_in None cs = length cs
end_in (Some hi) cs = place_in hi cs

-- the keys with one more among them, in order; one that is there already has the shallower level then
abbrev pub with_chosen : Chosen → List Chosen → List Chosen
with_chosen c [] = c ∷ []
with_chosen c (d ∷ ds) =
    if key_lt d.key c.key then d ∷ with_chosen c ds
    else if key_eq d.key c.key then record { key = d.key; level = min d.level c.level } ∷ ds
    else c ∷ d ∷ ds
