-- What the law of held entries says.
use Rattle.std.specs.Prelude.{◌≡◌, ℕ, ◌<◌, ◌≤◌, ◌^◌, true, List, length, Contains}
use Rattle.bloom.specs.Filter.{may_hold}
use Rattle.disk_model.specs.declared.table_handle.TableHandle.{Ghosts}
use Rattle.peb_base.specs.Choice.{mixed}
use Rattle.peb_base.specs.Entries.{AreSorted}
use Rattle.peb_base.specs.Tables.{IsRowOf}
use Rattle.peb_base.specs.declared.entry.Entry.{Entry}
use Rattle.table_file.specs.Form.{blocks_of, table_bytes}
use Rattle.table_file.specs.Opening.{OpensAs}
use Rattle.table_file.specs.Tables.{TableParts, IsTableOf, Holds}

-- a table that was written holds the entries that were pushed
abbrev pub WrittenHolds : {F : Type 0} → Ghosts F → Type 0
WrittenHolds {F} g = (t : TableParts F) (full : ℕ) (es : List Entry) → 5 < full → full ≤ 4096
    → IsTableOf g t (blocks_of full es) es → Holds g t es

-- the row is that of the table of these entries, whose blocks are full at this length, and
-- the table's handle has its number and its bytes
pub record IsOpenedOver {F : Type 0} (g : Ghosts F) (t : TableParts F) (full : ℕ)
    (es : List Entry) : Type 0 where
  pub least : 5 < full
  pub most : full ≤ 4096
  pub sorted : AreSorted es
  pub row_is : IsRowOf t.row es
  pub row_size : t.row.bytes < 2 ^ 64
  pub row_bytes : t.row.bytes ≡ length (table_bytes full t.row.number es)
  pub file_number : g.number t.file ≡ t.row.number
  pub file_bytes : g.bytes t.file ≡ table_bytes full t.row.number es
  pub opens : OpensAs t.row t.items t.filter (g.bytes t.file)

-- a table that is opened over the bytes of entries holds them
abbrev pub OpenedHolds : {F : Type 0} → Ghosts F → Type 0
OpenedHolds {F} g =
    (t : TableParts F) (full : ℕ) (es : List Entry) → IsOpenedOver g t full es → Holds g t es

-- no key of the entries that a table holds is denied by its filter
abbrev pub KeysAreHeld : {F : Type 0} → Ghosts F → Type 0
KeysAreHeld {F} g = (t : TableParts F) (es : List Entry) (e : Entry) → Holds g t es → Contains es e
    → may_hold t.filter (mixed e.key) ≡ true
