-- What a number sees of sorted entries.
use Rattle.std.specs.Prelude.{◌≡◌, ℕ, suc, ◌<◌, Bool, true, false, not, ◌&&◌, ◌||◌, nat_lt, if◌then◌else◌, List, [], ◌∷◌, drop, take, slice_get, length, map, Option, Some, None, IfSome}
use Rattle.peb_base.specs.Cursors.{entry_at}
use Rattle.peb_base.specs.Entries.{AreSorted, value_of}
use Rattle.peb_base.specs.Keys.{Bytes, key_eq}
use Rattle.peb_base.specs.Shown.{shown}
use Rattle.peb_base.specs.declared.change.Change.{Change}
use Rattle.peb_base.specs.declared.change.Change.TheVariants.{Put, Delete}
use Rattle.peb_base.specs.declared.cursor.Cursor.{Ghosts}
use Rattle.peb_base.specs.declared.entry.Entry.{Entry}

-- it gives its key a value
abbrev pub puts : Change → Bool
puts (Put v) = true
puts Delete = false

-- the entry is newer than n, or its key is this one, which an earlier entry decided
abbrev pub is_passed : ℕ → Bytes → Entry → Bool
is_passed n key e = nat_lt n e.number || key_eq e.key key

-- of each key but this one the first entry numbered at most n, unless that is a deletion
abbrev pub seen : ℕ → Bytes → List Entry → List Entry
seen n key [] = []
seen n key (e ∷ es) =
    if is_passed n key e then seen n key es
    else if puts e.change then e ∷ seen n e.key es
    else seen n e.key es

-- of each key the newest entry numbered at most n, unless that is a deletion
abbrev pub visible : ℕ → List Entry → List Entry
visible n es = seen n [] es

-- the entries as keys with their values are the rows that the model shows at n
abbrev pub ShowsVisible : Type 0
ShowsVisible = (n : ℕ) (es : List Entry) → AreSorted es
    → map (λ (e : Entry). (e.key, value_of e.change)) (visible n es) ≡ shown es n

-- a cursor stands among sorted entries where the visible one of this place is, or at no place
pub record Sees {C : Type 0} (g : Ghosts C) (n : ℕ) (c : C) (es : List Entry)
    (place : Option ℕ) : Type 0 where
  pub at : Option ℕ
  pub stands : g.stands c es at
  pub same : entry_at (visible n es) place ≡ entry_at es at
  pub inside : IfSome place (λ p. p < length (visible n es))

-- the entry, where it is a put numbered at most n
abbrev pub put_at_most : ℕ → Option Entry → Option Entry
put_at_most n None = None
put_at_most n (Some e) = if not (nat_lt n e.number) && puts e.change then Some e else None

-- ---- on

-- the key that the last entry numbered at most n has, once this entry is passed too
abbrev pub key_after : ℕ → Bytes → Option Entry → Bytes
key_after n key None = key
key_after n key (Some e) = if is_passed n key e then key else e.key

-- the key that the last of these numbered at most n has, or this one, once they are all passed
abbrev pub key_past : ℕ → Bytes → List Entry → Bytes
key_past n key [] = key
key_past n key (e ∷ es) = key_past n (key_after n key (Some e)) es

-- a walk on doesn't stop at the entry
abbrev pub is_hidden : ℕ → Bytes → Option Entry → Bool
is_hidden n key None = false
is_hidden n key (Some e) = is_passed n key e || not (puts e.change)

-- the entry's key, where there is one
abbrev pub key_of : Bytes → Option Entry → Bytes
key_of key None = key
key_of key (Some e) = e.key

-- the entries from a place on
abbrev pub rest : List Entry → Option ℕ → List Entry
rest es None = []
rest es (Some n) = drop n es

-- the visible ones from p on are those that can still be seen from this place on
abbrev pub IsAhead : ℕ → Bytes → List Entry → Option ℕ → ℕ → Type 0
IsAhead n key es at p = seen n key (rest es at) ≡ drop p (visible n es)

-- ---- back

-- the entry is a put numbered at most n
abbrev pub is_found : ℕ → Option Entry → Bool
is_found n None = false
is_found n (Some e) = not (nat_lt n e.number) && puts e.change

-- a walk back goes on: it has found no put, or the entry is one of the same key, numbered at most n too
abbrev pub looks_back : ℕ → Bytes → Bool → Option Entry → Bool
looks_back n key found None = false
looks_back n key found (Some e) = not found || (not (nat_lt n e.number) && key_eq e.key key)

-- a walk back over all but the first r entries leaves these to be seen; where it has found a put, the
-- entry behind the r first ones is that, and older ones of its key are gone over
abbrev pub IsBack : ℕ → Bytes → List Entry → ℕ → List Entry → Bool → Type 0
IsBack n key es r left false = seen n [] (take r es) ≡ left
IsBack n key es r left true =
    (e : Entry) × (slice_get es r ≡ Some e) × (e.key ≡ key) × (is_found n (Some e) ≡ true)
    × (seen n [] (take (suc r) es) ≡ left)
