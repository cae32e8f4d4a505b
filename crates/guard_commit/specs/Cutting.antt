-- What a Cut makes of its tables.
use Rattle.std.specs.Prelude.{ℕ, suc, ◌+◌, List, [], ◌∷◌, ◌++◌, length, map}
use Rattle.std.specs.List.{AllZip}
use Rattle.disk_model.specs.declared.table_handle.TableHandle.{Ghosts}
use Rattle.peb_base.specs.Keys.{Bytes}
use Rattle.peb_base.specs.declared.entry.Entry.{Entry}
use Rattle.peb_base.specs.declared.table_row.TableRow.{TableRow}
use Rattle.flsm_model.specs.declared.job.Job.{Job}
use Rattle.table_file.specs.Pieces.{Piece, pieces_from}
use Rattle.table_file.specs.PieceWriting.{AreTablesOf}
use Rattle.table_file.specs.Tables.{TableParts}
use Rattle.guard_commit.specs.Reading.{WasRead}

-- the pieces of tables with these entries, cut at the keys: those of each table are numbered from its
-- first number on, and each takes as many numbers as there are ranges
abbrev pub cut_from : ℕ → List Bytes → List (List Entry) → List Piece
cut_from n keys [] = []
cut_from n keys (es ∷ parts) = pieces_from n keys es ++ cut_from (n + suc (length keys)) keys parts

-- the tables have some entries, as they can be read, and the new ones, whose blocks are full at this
-- length, are those of their pieces
pub record IsCutOf {F : Type 0} (g : Ghosts F) (full : ℕ) (j : Job)
    (tables made : List (TableParts F)) : Type 0 where
  pub parts : List (List Entry)
  pub read : AllZip (WasRead g) tables parts
  pub pieces : AreTablesOf g full j.level made (cut_from j.numbers j.keys parts)

-- the rows of tables
abbrev pub rows_of : {F : Type 0} → List (TableParts F) → List TableRow
rows_of ts = map (λ t. t.row) ts

-- the lengths of rows' tables together
abbrev pub bytes_in : List TableRow → ℕ
bytes_in [] = 0
bytes_in (r ∷ rs) = r.bytes + bytes_in rs

-- the entries of rows' tables together
abbrev pub entries_in : List TableRow → ℕ
entries_in [] = 0
entries_in (r ∷ rs) = r.entries + entries_in rs
