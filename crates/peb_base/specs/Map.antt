-- The ordered map that batches spell.
use Rattle.std.specs.Prelude.{ℕ, Bool, true, ◌&&◌, not, if◌then◌else◌, List, [], ◌∷◌, reverse, take, filter, Option, Some, None}
use Rattle.peb_base.specs.Keys.{Bytes, key_lt, key_le, key_eq}
use Rattle.peb_base.specs.Entries.{entries_between}
use Rattle.peb_base.specs.Batches.{Batches, entries_of}
use Rattle.peb_base.specs.declared.change.Change.{Change}
use Rattle.peb_base.specs.declared.change.Change.TheVariants.{Put, Delete}
use Rattle.peb_base.specs.declared.entry.Entry.{Entry}

-- keys with their values, by ascending key
abbrev pub Map : Type 0
Map = List (Bytes × Bytes)

-- the map with this value at the key
abbrev pub set_key : Bytes → Bytes → Map → Map
set_key k v [] = (k, v) ∷ []
set_key k v (p ∷ ps) =
    if key_lt k p.0 then (k, v) ∷ p ∷ ps
    else if key_eq k p.0 then (k, v) ∷ ps
    else p ∷ set_key k v ps

-- the map without the key
abbrev pub remove_key : Bytes → Map → Map
remove_key k ps = filter (λ p. not (key_eq k p.0)) ps

-- the map after one operation
abbrev pub apply_change : Bytes → Change → Map → Map
apply_change k (Put v) m = set_key k v m
apply_change k Delete m = remove_key k m

-- the map after operations, in their order
abbrev pub apply_entries : List Entry → Map → Map
apply_entries [] m = m
apply_entries (e ∷ es) m = apply_entries es (apply_change e.key e.change m)

-- the map after the operations numbered at most n
abbrev pub map_at : Batches → ℕ → Map
map_at bs n = apply_entries (entries_between 0 n (entries_of bs)) []

-- the value at the key, if there is one
abbrev pub lookup : Bytes → Map → Option Bytes
lookup k [] = None
lookup k (p ∷ ps) = if key_eq k p.0 then Some p.1 else lookup k ps

-- the value of the key after the operations numbered at most n
abbrev pub value_at : Batches → ℕ → Bytes → Option Bytes
value_at bs n k = lookup k (map_at bs n)

-- the key comes before a bound; an empty one is no bound
abbrev pub is_under : Bytes → Bytes → Bool
is_under key [] = true
is_under key (b ∷ bs) = key_lt key (b ∷ bs)

-- the first pairs, at most limit, with lo <= key < hi
abbrev pub rows : Map → Bytes → Bytes → ℕ → Map
rows m lo hi limit = take limit (filter (λ p. key_le lo p.0 && is_under p.0 hi) m)

-- the same range from the greatest key downwards
abbrev pub reversed_rows : Map → Bytes → Bytes → ℕ → Map
reversed_rows m lo hi limit =
    take limit (reverse (filter (λ p. key_le lo p.0 && is_under p.0 hi) m))
