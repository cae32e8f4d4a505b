-- Where a cursor stands among a table's entries.
use Rattle.std.specs.Prelude.{◌≡◌, ℕ, ◌+◌, ◌<◌, IsTrue, List, length, take, Option, Some, slice_get}
use Rattle.std.specs.List.{flat_map}
use Rattle.disk_model.specs.declared.table_handle.TableHandle.{Ghosts}
use Rattle.peb_base.specs.declared.entry.Entry.{Entry}
use Rattle.table_file.specs.Blocks.{AreBlocks}
use Rattle.table_file.specs.Form.{blocks_of}
use Rattle.table_file.specs.Tables.{TableParts, Holds}
use Rattle.table_cursor.specs.Page.{Reading}
use Rattle.table_cursor.specs.Spots.{where_some}

-- the entries of blocks, one after another
abbrev pub joined : List (List Entry) → List Entry
joined blocks = flat_map (λ block. block) blocks

-- how many entries stand in front of the block at an index
abbrev pub entries_before : ℕ → List (List Entry) → ℕ
entries_before index blocks = length (joined (take index blocks))

-- the place among the entries of all blocks, where the page shows the block at an index
abbrev pub place_among : Reading → ℕ → List (List Entry) → Option ℕ
place_among page index blocks = where_some page.entries (entries_before index blocks + page.place)

-- the blocks have these entries, and the page shows the one at the index at this place among all, or nothing
pub record OnPage (page : Reading) (index : ℕ) (blocks : List (List Entry)) (es : List Entry)
    (place : Option ℕ) : Type 0 where
  pub whole : joined blocks ≡ es
  pub blocks_are : AreBlocks blocks
  pub here : 0 < length page.entries → slice_get blocks index ≡ Some page.entries
  pub there : place ≡ place_among page index blocks

-- the table holds these entries, which its device tells, and the page shows the one at this place, or nothing
pub record StandsAt {F : Type 0} (g : Ghosts F) (t : TableParts F) (page : Reading) (index : ℕ)
    (es : List Entry) (place : Option ℕ) : Type 0 where
  pub told : IsTrue g.tells
  pub holds : Holds g t es
  pub on : OnPage page index (blocks_of holds.full es) es place
