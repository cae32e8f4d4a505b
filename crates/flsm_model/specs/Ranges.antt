-- Ranges of keys, and the guards that bound them. A range goes from its first key, inclusive, to
-- its end, exclusive, if it has one.
use Rattle.std.specs.Prelude.{Bool, true, ◌&&◌, drop, if◌then◌else◌, List, [], ◌∷◌, Option, Some, None}
use Rattle.std.specs.List.{list_any, list_all, zip}
use Rattle.peb_base.specs.Keys.{Bytes, key_lt, key_le, key_eq}

-- the key is below the end, if there is one
abbrev pub is_below : Bytes → Option Bytes → Bool
is_below key None = true
is_below key (Some hi) = key_lt key hi

-- the key lies in the range
abbrev pub in_range : Bytes → Option Bytes → Bytes → Bool
in_range lo hi key = key_le lo key && is_below key hi

-- two ranges have a key in common: each begins before the other ends
abbrev pub ranges_meet : Bytes → Option Bytes → Bytes → Option Bytes → Bool
ranges_meet lo hi lo2 hi2 = is_below lo hi2 && is_below lo2 hi

-- the key is one of these
abbrev pub has_key : Bytes → List Bytes → Bool
has_key key ks = list_any (key_eq key) ks

-- each element with the one behind it
abbrev pub neighbours : {X : Type 0} → List X → List (X × X)
neighbours xs = zip xs (drop 1 xs)

-- the keys ascend, and none stands twice
abbrev pub keys_ascend : List Bytes → Bool
keys_ascend ks = list_all (λ p. key_lt p.0 p.1) (neighbours ks)

-- the first of the keys, or the empty string
abbrev pub first_of : List Bytes → Bytes
first_of [] = []
first_of (k ∷ ks) = k

-- the guards with one more among them, in order
abbrev pub with_key : Bytes → List Bytes → List Bytes
with_key k [] = k ∷ []
with_key k (g ∷ gs) =
    if key_lt k g then k ∷ g ∷ gs else if key_eq k g then g ∷ gs else g ∷ with_key k gs

-- the guards with these keys among them
abbrev pub with_keys : List Bytes → List Bytes → List Bytes
with_keys [] guards = guards
with_keys (k ∷ ks) guards = with_key k (with_keys ks guards)

-- the range that has the key, where lo bounds it from below and the guards follow lo
abbrev pub range_after : Bytes → List Bytes → Bytes → Bytes × Option Bytes
range_after lo [] key = (lo, None)
range_after lo (k ∷ ks) key = if key_lt key k then (lo, Some k) else range_after k ks key

-- the range of the guard that has the key: from the greatest guard at or below it, or the empty
-- string, to the next guard
abbrev pub range_of : List Bytes → Bytes → Bytes × Option Bytes
range_of guards key = range_after [] guards key
