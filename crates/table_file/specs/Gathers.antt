-- What is kept of the entries of a table when its blocks are closed.
use Rattle.std.specs.Prelude.{◌≡◌, ℕ, ◌<◌, ◌≤◌, IsTrue, List, length, map}
use Rattle.peb_base.specs.Choice.{mixed}
use Rattle.peb_base.specs.Entries.{AreSorted}
use Rattle.peb_base.specs.declared.entry.Entry.{Entry}
use Rattle.table_file.specs.Form.{items_from}
use Rattle.table_file.specs.Indexes.{Indexes}
use Rattle.table_file.specs.Items.{ascend}
use Rattle.table_file.specs.Sums.{Sums}
use Rattle.table_file.specs.declared.index.Index.{Index}
use Rattle.table_file.specs.declared.summary.Summary.{Summary}

-- the index is that of the blocks, whose last entries ascend, and the
-- hashes and sums are those of the entries
pub record Gathers (index : Index) (hashes : List ℕ) (summary : Summary)
    (blocks : List (List Entry)) (es : List Entry) : Type 0 where
  pub sorted : AreSorted es
  pub some : 0 < length es
  pub few : length es ≤ 1717986918
  pub index_is : Indexes index blocks
  pub blocked : 0 < length (items_from 0 blocks)
  pub ascending : IsTrue (ascend (items_from 0 blocks))
  pub hashes_are : hashes ≡ map (λ e. mixed e.key) es
  pub sums : Sums summary es
