-- What a writer keeps of the entries that were pushed.
use Rattle.std.specs.Prelude.{◌≡◌, ℕ, ◌<◌, ◌≤◌, Bool, IsTrue, List, ◌++◌, length, map, Option, Some}
use Rattle.std.specs.List.{flat_map}
use Rattle.peb_base.specs.Choice.{mixed}
use Rattle.peb_base.specs.Entries.{AreSorted}
use Rattle.peb_base.specs.declared.entry.Entry.{Entry}
use Rattle.block_form.specs.Form.{block_bytes}
use Rattle.table_file.specs.Form.{Cut, cut_of, body_bytes}
use Rattle.table_file.specs.Indexes.{Indexes}
use Rattle.table_file.specs.Sums.{Sums}
use Rattle.table_file.specs.declared.index.Index.{Index}
use Rattle.table_file.specs.declared.summary.Summary.{Summary}
use Rattle.table_file.specs.declared.table_writer.TableWriter.{TableWriter}

-- the length in bytes at which the writer closes a block
abbrev pub block_length : TableWriter → ℕ
block_length w = w.builder.full

-- the entries are those of the closed blocks and of the begun one; the maker has begun this number, and the
-- closed blocks, where it tells them, are what was written
pub record Keeps (tells : Bool) (begun : Option ℕ) (written : List ℕ) (number : ℕ)
    (open_block : List Entry) (index : Index) (hashes : List ℕ) (summary : Summary) (cut : Cut)
    (es : List Entry) : Type 0 where
  pub sorted : AreSorted es
  pub whole : es ≡ flat_map (λ block. block) cut.closed ++ cut.begun
  pub few : length es ≤ 1717986918
  pub begun_is : begun ≡ Some number
  pub blocks : IsTrue tells → written ≡ body_bytes cut.closed
  pub open_is : open_block ≡ cut.begun
  pub index_is : Indexes index cut.closed
  pub hashes_are : hashes ≡ map (λ e. mixed e.key) es
  pub sums : Sums summary es

-- these entries were pushed since the writer's start, and the maker is as the writer left it
pub record HasPushed (tells : Bool) (begun : Option ℕ) (written : List ℕ) (w : TableWriter)
    (es : List Entry) : Type 0 where
  pub keeps : Keeps tells begun written w.number w.builder.entries w.index w.hashes.items w.summary
      (cut_of w.builder.full es) es
  pub room : length (block_bytes (cut_of w.builder.full es).begun) < w.builder.full
