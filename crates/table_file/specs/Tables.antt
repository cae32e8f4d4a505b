-- What a table is, and what it holds.
use Rattle.std.specs.Prelude.{◌≡◌, ℕ, ◌<◌, ◌≤◌, IsTrue, List, length}
use Rattle.disk_model.specs.declared.table_handle.TableHandle.{Ghosts}
use Rattle.peb_base.specs.Entries.{AreSorted}
use Rattle.peb_base.specs.Tables.{IsRowOf}
use Rattle.peb_base.specs.declared.entry.Entry.{Entry}
use Rattle.peb_base.specs.declared.table_row.TableRow.{TableRow}
use Rattle.table_file.specs.Form.{blocks_of, items_from, key_filter, blocks_table}
use Rattle.table_file.specs.Items.{ascend, are_short}
use Rattle.table_file.specs.declared.index_item.IndexItem.{IndexItem}

-- what is kept of a table in memory: its row, the handle of its file, the items
-- of its index, and the bytes of its filter
pub record TableParts (F : Type 0) : Type 0 where
  pub row : TableRow
  pub file : F
  pub items : List IndexItem
  pub filter : List ℕ

-- what is true of every table: its file has its number, it has a block, no block is longer than
-- 40,960 bytes, and the last entries of the blocks ascend
pub record IsShaped {F : Type 0} (number : F → ℕ) (t : TableParts F) : Type 0 where
  pub number_is : number t.file ≡ t.row.number
  pub some : 0 < length t.items
  pub short : IsTrue (are_short t.items)
  pub ascending : IsTrue (ascend t.items)

-- the row is that of a table of this number, at this level and tier
pub record IsRowAt (row : TableRow) (number level tier : ℕ) : Type 0 where
  pub number_is : row.number ≡ number
  pub level_is : row.level ≡ level
  pub tier_is : row.tier ≡ tier

-- the table holds these entries in these blocks: its row, its index and its filter are theirs,
-- and its file, where it is told, has their bytes
pub record IsTableOf {F : Type 0} (g : Ghosts F) (t : TableParts F) (blocks : List (List Entry))
    (es : List Entry) : Type 0 where
  pub sorted : AreSorted es
  pub row_is : IsRowOf t.row es
  pub row_bytes : t.row.bytes ≡ length (blocks_table t.row.number blocks es)
  pub file_number : g.number t.file ≡ t.row.number
  pub file_bytes : IsTrue g.tells → g.bytes t.file ≡ blocks_table t.row.number blocks es
  pub items_are : t.items ≡ items_from 0 blocks
  pub filter_is : t.filter ≡ key_filter es

-- the table, of whatever level and tier, holds these entries in the blocks that they are cut into, where a
-- block is full at a length of 6 to 4,096 bytes, as in every profile
pub record Holds {F : Type 0} (g : Ghosts F) (t : TableParts F) (es : List Entry) : Type 0 where
  pub full : ℕ
  pub least : 5 < full
  pub most : full ≤ 4096
  pub table : IsTableOf g t (blocks_of full es) es
