-- What a flush gives, and what it leaves.
use Rattle.std.specs.Prelude.{◌≡◌, ◌⊎◌, ℕ, List, [], ◌∷◌}
use Rattle.disk_model.specs.Tables.{Sealed, with_table}
use Rattle.disk_model.specs.declared.table_handle.TableHandle.{Ghosts}
use Rattle.flsm_model.specs.Choices.{put_keys, choices}
use Rattle.flsm_model.specs.Trees.{Describes}
use Rattle.flsm_model.specs.declared.edit.Edit.{Edit}
use Rattle.flsm_model.specs.declared.edit.Edit.TheVariants.{Flush}
use Rattle.peb_base.specs.Profiles.{Column}
use Rattle.peb_base.specs.declared.entry.Entry.{Entry}
use Rattle.peb_base.specs.declared.table_row.TableRow.{TableRow}
use Rattle.table_file.specs.Form.{blocks_of}
use Rattle.table_file.specs.Tables.{TableParts, IsTableOf, IsRowAt}

-- the edit of a flush of these entries into the table of this number: its row describes them, at
-- level 0 and tier 0; the chosen keys are those of their puts that have a level; what the store
-- alone knows is 0
pub record IsFlushOf (o : Column) (number : ℕ) (es : List Entry) (e : Edit) : Type 0 where
  pub row : TableRow
  pub describes : Describes o row es
  pub place : IsRowAt row number 0 0
  pub is : e ≡ Flush row 0 0 0 (choices o (put_keys es))

-- one table was made: it holds these entries in blocks that are full at this length, and its row is
-- the edit's one
pub record IsFlushed {F : Type 0} (g : Ghosts F) (full : ℕ) (es : List Entry)
    (tables : List (TableParts F)) (rows : List TableRow) : Type 0 where
  pub table : TableParts F
  pub holds : IsTableOf g table (blocks_of full es) es
  pub one : tables ≡ table ∷ []
  pub row : rows ≡ table.row ∷ []

-- the table of this number was sealed with these bytes, or nothing was
abbrev pub SealsAllOrNothing : ℕ → List ℕ → Sealed → Sealed → Type 0
SealsAllOrNothing number bytes before now =
    (now ≡ before) ⊎ (now ≡ with_table number bytes before)
