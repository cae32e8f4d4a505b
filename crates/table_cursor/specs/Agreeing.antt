-- When a block agrees with its table.
use Rattle.std.specs.Prelude.{◌≡◌, ℕ, zero, suc, ◌<◌, ◌≤◌, true, IsTrue, List, [], ◌∷◌, length, take, drop, Some, slice_get}
use Rattle.peb_base.specs.Keys.{Bytes}
use Rattle.peb_base.specs.Entries.{comes_before}
use Rattle.peb_base.specs.Tables.{first_key, last_key, least_number, greatest_number}
use Rattle.peb_base.specs.declared.entry.Entry.{Entry}
use Rattle.peb_base.specs.declared.table_row.TableRow.{TableRow}
use Rattle.block_form.specs.Form.{IsBlock, block_bytes}
use Rattle.table_file.specs.Form.{item_of}
use Rattle.table_file.specs.declared.index_item.IndexItem.{IndexItem}
use Rattle.disk_model.specs.declared.table_handle.TableHandle.{Ghosts}
use Rattle.table_file.specs.Tables.{TableParts}
use Rattle.table_cursor.specs.Page.{Reading}

-- the last key in front of the block at an index, where this one stands in front of the first
abbrev pub key_before : Bytes → ℕ → List IndexItem → Bytes
key_before key zero items = key
key_before key (suc n) [] = key
key_before key (suc n) (item ∷ items) = key_before item.key n items

-- the last number in front of the block at an index, where this one stands in front of the first
abbrev pub number_before : ℕ → ℕ → List IndexItem → ℕ
number_before number zero items = number
number_before number (suc n) [] = number
number_before number (suc n) (item ∷ items) = number_before item.number n items

-- the number of the first entry
abbrev pub first_number : List Entry → ℕ
first_number [] = 0
first_number (e ∷ es) = e.number

-- a block of these entries at this place is what the table's index and row tell of the block at an index:
-- its last entry is the item's, its first comes after the last of the item before, the smallest and the
-- largest key are the row's, and the numbers lie within the row's
pub record Agrees (row : TableRow) (items : List IndexItem) (index at : ℕ)
    (es : List Entry) : Type 0 where
  pub indexed : slice_get items index ≡ Some (item_of at es)
  pub after : comes_before (key_before [] index items) (number_before 0 index items) (first_key es)
      (first_number es) ≡ true
  pub smallest : index ≡ 0 → first_key es ≡ row.smallest
  pub largest : suc index ≡ length items → last_key es ≡ row.largest
  pub least : row.first ≤ least_number es
  pub greatest : greatest_number es ≤ row.last

-- the page shows an entry of the block at this index, which agrees with the table, and
-- whose bytes stand in the file, where that is told
pub record ShowsOf {F : Type 0} (g : Ghosts F) (t : TableParts F) (index : ℕ)
    (page : Reading) : Type 0 where
  pub inside : page.place < length page.entries
  pub agrees : Agrees t.row t.items index page.at page.entries
  pub small : length page.bytes ≤ 40960
  pub spelled : page.bytes ≡ block_bytes page.entries
  pub read : IsTrue g.tells → page.bytes ≡ take (length page.bytes) (drop page.at (g.bytes t.file))

-- the entry is one of a block that agrees with the index and the row of the table, and
-- whose bytes stand in its file, if they are told
pub record IsOfBlock {F : Type 0} (g : Ghosts F) (t : TableParts F) (entry : Entry) : Type 0 where
  pub index : ℕ
  pub page : Reading
  pub shows : ShowsOf g t index page
  pub there : slice_get page.entries page.place ≡ Some entry

-- at this place of the table of this number begins the block at an index, where no bytes of a block
-- that agrees with the table stand in the file, if that is told
pub record IsDamageAt {F : Type 0} (g : Ghosts F) (t : TableParts F) (index number at : ℕ)
    : Type 0 where
  pub item : IndexItem
  pub number_is : number ≡ t.row.number
  pub indexed : slice_get t.items index ≡ Some item
  pub place : at ≡ item.place
  pub none : IsTrue g.tells → (es : List Entry) → Agrees t.row t.items index at es
      → IsBlock es (take item.len (drop at (g.bytes t.file))) → ⊥

-- such damage stands at some block of the table
pub record IsDamageOf {F : Type 0} (g : Ghosts F) (t : TableParts F) (number at : ℕ)
    : Type 0 where
  pub index : ℕ
  pub is : IsDamageAt g t index number at
