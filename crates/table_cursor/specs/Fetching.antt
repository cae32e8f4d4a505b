-- What was read of a table into a buffer.
use Rattle.std.specs.Prelude.{◌≡◌, ℕ, ◌≤◌, IsTrue, List, length, take, drop, Some, slice_get}
use Rattle.peb_base.specs.declared.entry.Entry.{Entry}
use Rattle.block_form.specs.Form.{IsBlock}
use Rattle.disk_model.specs.declared.table_handle.TableHandle.{Ghosts}
use Rattle.table_file.specs.Tables.{TableParts}
use Rattle.table_file.specs.declared.index_item.IndexItem.{IndexItem}
use Rattle.table_cursor.specs.Agreeing.{Agrees}

-- the buffer begins with the block at an index of the table, so many entries, which agrees with the
-- table; its bytes stand in the file, where that is told
pub record Fetched {F : Type 0} (g : Ghosts F) (t : TableParts F) (index count : ℕ)
    (buffer : List ℕ) : Type 0 where
  pub item : IndexItem
  pub indexed : slice_get t.items index ≡ Some item
  pub entries : List Entry
  pub fits : item.len ≤ 40960
  pub form : IsBlock entries (take item.len buffer)
  pub counted : length entries ≡ count
  pub agrees : Agrees t.row t.items index item.place entries
  pub read : IsTrue g.tells
      → take item.len buffer ≡ take item.len (drop item.place (g.bytes t.file))
