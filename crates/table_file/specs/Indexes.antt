-- What is kept of the blocks that were written.
use Rattle.std.specs.Prelude.{◌≡◌, List, length}
use Rattle.peb_base.specs.declared.entry.Entry.{Entry}
use Rattle.table_file.specs.Form.{items_from, index_bytes, body_bytes}
use Rattle.table_file.specs.declared.index.Index.{Index}

-- the items, the end and the length are those of these blocks
pub record Indexes (index : Index) (blocks : List (List Entry)) : Type 0 where
  pub items : index.items.items ≡ items_from 0 blocks
  pub end : index.end ≡ length (body_bytes blocks)
  pub bytes : index.bytes ≡ length (index_bytes index.items.items)
