-- What contracts see of a cursor over a memtable.
use Rattle.std.specs.Prelude.{◌≡◌, ℕ, suc, ◌-◌, List, Option, Some, None, length, take, option_map, IfSome}
use Rattle.peb_base.specs.Cursors.{entry_at}
use Rattle.peb_base.specs.declared.entry.Entry.{Entry}
use Rattle.mem_table.specs.Chunked.{joined}
use Rattle.mem_table.specs.Spots.{place_of}
use Rattle.mem_table.specs.declared.mem_cursor.MemCursor.{MemCursor}

-- the entries that it walks over
abbrev pub entries_in : MemCursor → List Entry
entries_in c = joined c.entries

-- its place among them, or none
abbrev pub place_at : MemCursor → Option ℕ
place_at c = option_map (place_of c.entries) c.spot

-- it walks over these entries, and stands at this place among them, or at none
pub record StandsIn (c : MemCursor) (es : List Entry) (place : Option ℕ) : Type 0 where
  pub over : es ≡ entries_in c
  pub there : place ≡ place_at c

-- the entry at which it stands
abbrev pub shown_by : MemCursor → Option Entry
shown_by c = entry_at (entries_in c) (place_at c)

-- it can have gone over these entries since its first one: those before its place
abbrev pub WalksIn : MemCursor → List Entry → Type 0
WalksIn c es = IfSome (place_at c) (λ n. es ≡ take n (entries_in c))

-- the steps from a place of so many entries to no place behind the last
abbrev pub steps_ahead : ℕ → Option ℕ → ℕ
steps_ahead len None = 0
steps_ahead len (Some n) = len - n

-- the steps from a place to no place before the first
abbrev pub steps_back : Option ℕ → ℕ
steps_back None = 0
steps_back (Some n) = suc n

-- how many steps on there are
abbrev pub ahead_of : MemCursor → ℕ
ahead_of c = steps_ahead (length (entries_in c)) (place_at c)

-- how many steps back there are
abbrev pub back_of : MemCursor → ℕ
back_of c = steps_back (place_at c)

-- what no move changes: the entries that it walks over
abbrev pub Keeps : MemCursor → MemCursor → Type 0
Keeps a b = entries_in b ≡ entries_in a
