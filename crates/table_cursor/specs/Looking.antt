-- The newest entry of a key at or below a number.
use Rattle.std.specs.Prelude.{◌≡◌, ℕ, ◌≤◌, ◌<◌, ◌&&◌, List, length, Option, None, Result, Ok, Err, nat_le, option_map}
use Rattle.std.specs.List.{find}
use Rattle.disk_model.specs.declared.table_handle.TableHandle.{Ghosts}
use Rattle.peb_base.specs.EntryRefs.{entry_of}
use Rattle.peb_base.specs.Keys.{Bytes, key_eq}
use Rattle.peb_base.specs.declared.entry.Entry.{Entry}
use Rattle.peb_base.specs.declared.entry_ref.EntryRef.{EntryRef}
use Rattle.peb_base.specs.declared.read_fault.ReadFault.{ReadFault}
use Rattle.peb_base.specs.declared.read_fault.ReadFault.TheVariants.{Fault, Damaged}
use Rattle.table_file.specs.Items.{index_for}
use Rattle.table_file.specs.Tables.{TableParts}
use Rattle.table_cursor.specs.Agreeing.{IsOfBlock}
use Rattle.table_cursor.specs.Walking.{CanBeRead}

-- the newest entry of a key at or below a number, among entries in order
abbrev pub newest_of : Bytes → ℕ → List Entry → Option Entry
newest_of key number es = find (λ e. key_eq e.key key && nat_le e.number number) es

-- this entry is found, or none, unless the device failed; damage isn't told
abbrev pub Finds : Option Entry → Result (Option EntryRef) ReadFault → Type 0
Finds wanted (Ok found) = option_map entry_of found ≡ wanted
Finds wanted (Err Fault) = Unit {0}
Finds wanted (Err (Damaged table at)) = ⊥

-- the entry is of this key, numbered at most so, and one of a block of the table
pub record IsFound {F : Type 0} (g : Ghosts F) (t : TableParts F) (key : Bytes) (number : ℕ)
    (e : Entry) : Type 0 where
  pub key_is : e.key ≡ key
  pub below : e.number ≤ number
  pub of_block : IsOfBlock g t e

-- this was found where the index leads, whatever the device tells: nothing behind the last block,
-- else the newest one of the block as it can be read
pub record IsLookedUp {F : Type 0} (g : Ghosts F) (t : TableParts F) (key : Bytes) (number : ℕ)
    (found : Option Entry)
    : Type 0 where
  pub beyond : length t.items ≤ index_for key number t.items → found ≡ None
  pub inside : index_for key number t.items < length t.items → (block : List Entry)
      × CanBeRead g t (index_for key number t.items) block × (found ≡ newest_of key number block)
