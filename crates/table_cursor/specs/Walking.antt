-- What a cursor went over in its table, whatever the device tells.
use Rattle.std.specs.Prelude.{◌≡◌, ℕ, zero, suc, ◌+◌, ◌-◌, ◌*◌, ◌<◌, ◌≤◌, List, [], ◌∷◌, ◌++◌, length, take, Option, Some, None}
use Rattle.disk_model.specs.declared.table_handle.TableHandle.{Ghosts}
use Rattle.peb_base.specs.Entries.{AreSorted}
use Rattle.peb_base.specs.Tables.{first_key, last_key, least_number, greatest_number}
use Rattle.peb_base.specs.declared.entry.Entry.{Entry}
use Rattle.peb_base.specs.declared.table_row.TableRow.{TableRow}
use Rattle.table_file.specs.Tables.{TableParts}
use Rattle.table_cursor.specs.Agreeing.{ShowsOf}
use Rattle.table_cursor.specs.Page.{Reading}

-- these entries can be read as the block at an index of the table: they are sorted, agree with the table,
-- and their bytes stand in the file, where that is told
pub record CanBeRead {F : Type 0} (g : Ghosts F) (t : TableParts F) (index : ℕ)
    (block : List Entry) : Type 0 where
  pub page : Reading
  pub shows : ShowsOf g t index page
  pub sorted : AreSorted page.entries
  pub is : page.entries ≡ block

-- so many first blocks, as they can be read, have these entries
abbrev pub ReadInOrder : {F : Type 0} → Ghosts F → TableParts F → ℕ → List Entry → Type 0
ReadInOrder g t zero es = es ≡ []
ReadInOrder g t (suc n) es = (front : List Entry) × (block : List Entry) × ReadInOrder g t n front
    × CanBeRead g t n block × (es ≡ front ++ block)

-- the first where there are no entries, the second where there are
abbrev pub by_entries : {A : Type 0} → List Entry → A → A → A
by_entries [] none some = none
by_entries (e ∷ es) none some = some

-- how many blocks were gone over: those in front of the one on the page, and all where none is there
abbrev pub blocks_passed : ℕ → ℕ → Reading → ℕ
blocks_passed blocks index page = by_entries page.entries blocks index

-- these are the entries of the blocks that were gone over, and those in front of the page's place
pub record WalkedOver {F : Type 0} (g : Ghosts F) (t : TableParts F) (index : ℕ) (page : Reading)
    (es : List Entry) : Type 0 where
  pub front : List Entry
  pub were : ReadInOrder g t (blocks_passed (length t.items) index page) front
  pub is : es ≡ front ++ take page.place page.entries

-- how many steps there are at most in so many blocks: a block has at most
-- 40,960 bytes, and an entry at least one
abbrev pub most_steps : ℕ → ℕ
most_steps blocks = blocks * 40961

-- how many steps on there are at most from what the page shows
abbrev pub steps_ahead : ℕ → ℕ → Reading → ℕ
steps_ahead blocks index page = by_entries page.entries 0 (most_steps (blocks - index) - page.place)

-- how many steps back there are at most
abbrev pub steps_back : ℕ → Reading → ℕ
steps_back index page = by_entries page.entries 0 (most_steps index + page.place + 1)

-- entries that ascend, begin with the row's smallest key, end with its
-- largest, and have numbers within the row's
pub record SpansRow (row : TableRow) (es : List Entry) : Type 0 where
  pub some : 0 < length es
  pub sorted : AreSorted es
  pub smallest : first_key es ≡ row.smallest
  pub largest : last_key es ≡ row.largest
  pub least : row.first ≤ least_number es
  pub greatest : greatest_number es ≤ row.last

-- the entries in front of a place, and all in front of no place
abbrev pub in_front : Option ℕ → List Entry → List Entry
in_front None es = es
in_front (Some n) es = take n es
