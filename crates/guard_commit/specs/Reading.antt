-- What is read of a table, whatever its device tells.
use Rattle.std.specs.Prelude.{◌≡◌, ◌⊎◌, ℕ, suc, ◌<◌, IsTrue, List, ◌++◌, length, Option, Some, slice_get}
use Rattle.disk_model.specs.declared.port.Port as ports
use Rattle.disk_model.specs.declared.table_handle.TableHandle.{Ghosts}
use Rattle.peb_base.specs.Entries.{AreSorted}
use Rattle.peb_base.specs.Tables.{IsRowOf, raw_length}
use Rattle.peb_base.specs.declared.entry.Entry.{Entry}
use Rattle.peb_base.specs.declared.table_row.TableRow.{TableRow}
use Rattle.table_file.specs.Tables.{TableParts, Holds}
use Rattle.table_file.specs.declared.index_item.IndexItem.{IndexItem}
use Rattle.table_cursor.specs.Agreeing.{IsDamageOf}
use Rattle.table_cursor.specs.Views.{table_of, StandsIn, WalksIn}
use Rattle.table_cursor.specs.Walking.{CanBeRead, ReadInOrder, in_front}
use Rattle.table_cursor.specs.declared.table_cursor.TableCursor.{TableCursor}

-- the table holds these entries, and its device tells its bytes
abbrev pub IsHeld : {F : Type 0} → Ghosts F → TableParts F → List Entry → Type 0
IsHeld g t es = IsTrue g.tells × Holds g t es

-- these are the entries of all blocks of the table, as they can be read, and its row is theirs; what
-- the table holds is nothing else
pub record WasRead {F : Type 0} (g : Ghosts F) (t : TableParts F) (es : List Entry) : Type 0 where
  pub were : ReadInOrder g t (length t.items) es
  pub sorted : AreSorted es
  pub row : IsRowOf t.row es
  pub told : (held : List Entry) → IsHeld g t held → es ≡ held

-- these are first entries of the table, as its blocks can be read, and the last of them is one of the
-- block at this index
pub record Reaches {F : Type 0} (g : Ghosts F) (t : TableParts F) (index : ℕ) (es : List Entry)
    : Type 0 where
  pub front : List Entry
  pub own : List Entry
  pub rest : List Entry
  pub were : ReadInOrder g t index front
  pub block : CanBeRead g t index (own ++ rest)
  pub is : es ≡ front ++ own
  pub some : 0 < length own

-- the row tells of fewer entries than these, or of shorter keys and values
abbrev pub IsPassedBy : TableRow → List Entry → Type 0
IsPassedBy row es = (row.entries < length es) ⊎ (row.raw < raw_length es)

-- up to this block the table has more than its row tells, or all its blocks have something else
abbrev pub IsFalseAt : {F : Type 0} → Ghosts F → TableParts F → ℕ → List Entry → Type 0
IsFalseAt g t index es = (Reaches g t index es × IsPassedBy t.row es)
    ⊎ ((suc index ≡ length t.items) × ReadInOrder g t (suc index) es × (IsRowOf t.row es → ⊥))

-- at this place of the table of this number begins the block at which its row proves false
pub record IsFalseRow {F : Type 0} (g : Ghosts F) (t : TableParts F) (number at : ℕ)
    : Type 0 where
  pub index : ℕ
  pub item : IndexItem
  pub read : List Entry
  pub number_is : number ≡ t.row.number
  pub indexed : slice_get t.items index ≡ Some item
  pub place : at ≡ item.place
  pub is_false : IsFalseAt g t index read

-- damage stands at this place of the table of this number: in a block, or in what its row tells
abbrev pub IsDamagedAt : {F : Type 0} → Ghosts F → TableParts F → ℕ → ℕ → Type 0
IsDamagedAt g t number at = IsDamageOf g t number at ⊎ IsFalseRow g t number at

-- the cursor can have gone over these entries since its first one; those of a table that holds
-- entries are its entries in front of the cursor's place
pub record HasPassed {P F : Type 0} {p : ports.Ghosts P F} {f : Ghosts F}
    (c : TableCursor P F p f) (es : List Entry) : Type 0 where
  pub walks : WalksIn c es
  pub told : (held : List Entry) → IsHeld f (table_of c) held
      → (place : Option ℕ) × StandsIn c held place × (es ≡ in_front place held)
