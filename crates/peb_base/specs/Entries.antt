-- Entries and their order.
use Rattle.std.specs.Prelude.{◌≡◌, ℕ, suc, ◌+◌, ◌<◌, ◌≤◌, ◌^◌, Bool, true, ◌&&◌, ◌||◌, if◌then◌else◌, List, [], ◌∷◌, length, filter, nat_lt, nat_le, sum_by}
use Rattle.peb_base.specs.Keys.{Bytes, key_lt, key_eq}
use Rattle.peb_base.specs.declared.change.Change.{Change}
use Rattle.peb_base.specs.declared.change.Change.TheVariants.{Put, Delete}
use Rattle.peb_base.specs.declared.entry.Entry.{Entry}

-- the value of a put; a deletion has none
abbrev pub value_of : Change → Bytes
value_of (Put value) = value
value_of Delete = []

-- the entry order on keys and numbers: by key ascending, then by number descending
abbrev pub comes_before : Bytes → ℕ → Bytes → ℕ → Bool
comes_before key number later lower = key_lt key later || (key_eq key later && nat_lt lower number)

-- a comes before b
abbrev pub entry_lt : Entry → Entry → Bool
entry_lt a b = comes_before a.key a.number b.key b.number

-- the entry at its place among entries in order
abbrev pub put_in : Entry → List Entry → List Entry
put_in e [] = e ∷ []
put_in e (f ∷ fs) = if entry_lt e f then e ∷ f ∷ fs else f ∷ put_in e fs

-- the entries in order
abbrev pub in_order : List Entry → List Entry
in_order [] = []
in_order (e ∷ es) = put_in e (in_order es)

-- the size of a memtable with these entries, in bytes
abbrev pub size_of : List Entry → ℕ
size_of es = sum_by (λ e. length e.key + length (value_of e.change) + 16) es

-- the entries numbered above low and at most high
abbrev pub entries_between : ℕ → ℕ → List Entry → List Entry
entries_between low high es = filter (λ e. nat_lt low e.number && nat_le e.number high) es

-- key, number and value of an entry are within their limits
pub record IsEntry (e : Entry) : Type 0 where
  pub some : 0 < length e.key
  pub key : length e.key ≤ 1024
  pub number : e.number < 2 ^ 63
  pub value : length (value_of e.change) ≤ 32768

-- entries within their limits that ascend strictly, all behind this key and number
abbrev pub AscendFrom : Bytes → ℕ → List Entry → Type 0
AscendFrom key number [] = Unit {0}
AscendFrom key number (e ∷ es) =
    IsEntry e × (comes_before key number e.key e.number ≡ true) × AscendFrom e.key e.number es

-- entries within their limits that ascend strictly
abbrev pub AreSorted : List Entry → Type 0
AreSorted es = AscendFrom [] 0 es

-- the place of the first entry at or behind this key and number, or the length where all come before
abbrev pub first_from : Bytes → ℕ → List Entry → ℕ
first_from key number [] = 0
first_from key number (e ∷ es) =
    if comes_before e.key e.number key number then suc (first_from key number es) else 0
