-- What a writer of pieces keeps of the entries that were pushed.
use Rattle.std.specs.Prelude.{◌≡◌, ◌⊎◌, ℕ, ◌+◌, ◌-◌, ◌==◌, Bool, true, false, if◌then◌else◌, List, [], ◌∷◌, ◌++◌, Option, Some, None}
use Rattle.std.specs.List.{AllZip}
use Rattle.disk_model.specs.Tables.{Sealed, with_table}
use Rattle.disk_model.specs.declared.table_handle.TableHandle.{Ghosts}
use Rattle.peb_base.specs.Entries.{AreSorted}
use Rattle.peb_base.specs.Keys.{Bytes}
use Rattle.peb_base.specs.Tables.{last_key}
use Rattle.peb_base.specs.declared.entry.Entry.{Entry}
use Rattle.table_file.specs.Form.{blocks_of}
use Rattle.table_file.specs.Limits.{push_fault, blocks_fault}
use Rattle.table_file.specs.Pieces.{Piece, pieces_from, range_of, last_piece, whole_length, open_length}
use Rattle.table_file.specs.Tables.{TableParts, IsTableOf, IsRowAt}
use Rattle.table_file.specs.Writing.{block_length, HasPushed}
use Rattle.table_file.specs.declared.put_fault.PutFault.{PutFault}
use Rattle.table_file.specs.declared.table_writer.TableWriter.{TableWriter}

-- what is kept: the writer of tables, their level, the first number and the last entry's range of
-- the input, whether a table is open, and the tables that were closed
pub record PieceParts (F : Type 0) : Type 0 where
  pub writer : TableWriter
  pub level : ℕ
  pub numbers : ℕ
  pub at : ℕ
  pub is_open : Bool
  pub tables : List (TableParts F)

-- the length in bytes at which it closes a block
abbrev pub full_length : {F : Type 0} → PieceParts F → ℕ
full_length w = block_length w.writer

-- what a maker tells of the table that it writes
pub record Making : Type 0 where
  pub tells : Bool
  pub begun : Option ℕ
  pub written : List ℕ

abbrev pub making : Bool → Option ℕ → List ℕ → Making
making tells begun written = record { tells = tells; begun = begun; written = written }

-- what was pushed: the pieces of the inputs before, and the entries of the last one
pub record Pushed : Type 0 where
  pub earlier : List Piece
  pub entries : List Entry

-- nothing was pushed
abbrev pub nothing : Pushed
nothing = record { earlier = []; entries = [] }

-- all pieces, where the last input's first number is this
abbrev pub all_pieces : ℕ → List Bytes → Pushed → List Piece
all_pieces n keys s = s.earlier ++ pieces_from n keys s.entries

-- the table is that of the piece, at this level, and its blocks are full at this length
pub record IsTableOfPiece {F : Type 0} (g : Ghosts F) (full level : ℕ) (t : TableParts F)
    (p : Piece) : Type 0 where
  pub table : IsTableOf g t (blocks_of full p.entries) p.entries
  pub row : IsRowAt t.row p.number level 0

-- the tables are those of these pieces, in order, at this level
abbrev pub AreTablesOf : {F : Type 0} → Ghosts F → ℕ → ℕ → List (TableParts F) → List Piece
    → Type 0
AreTablesOf g full level tables ps = AllZip (IsTableOfPiece g full level) tables ps

-- the open table is that of the piece so far
pub record Writes {F : Type 0} (m : Making) (w : PieceParts F) (p : Piece) : Type 0 where
  pub pushed : HasPushed m.tells m.begun m.written w.writer p.entries
  pub number : w.writer.number ≡ p.number
  pub level : w.writer.level ≡ w.level

-- entries were pushed of an input with this first number: the last piece is that of the last
-- entry's range, so many ranges behind the first, and the others are closed
pub record IsOpenAt (n at : ℕ) (keys : List Bytes) (s : Pushed) : Type 0 where
  pub closed : List Piece
  pub front : List Entry
  pub own : List Entry
  pub last : Entry
  pub is : s.entries ≡ front ++ last ∷ []
  pub sorted : AreSorted s.entries
  pub range : at ≡ range_of last.key keys
  pub cut : all_pieces n keys s
      ≡ closed ++ record { number = n + at; entries = own ++ last ∷ [] } ∷ []

-- the last piece
abbrev pub open_piece : {n at : ℕ} {keys : List Bytes} {s : Pushed} → IsOpenAt n at keys s → Piece
open_piece {n} {at} o = record { number = n + at; entries = o.own ++ o.last ∷ [] }

-- so it is, the closed pieces have their tables, and the last one's is open
pub record HasOpen {F : Type 0} (g : Ghosts F) (m : Making) (w : PieceParts F) (keys : List Bytes)
    (s : Pushed) : Type 0 where
  pub here : IsOpenAt w.numbers w.at keys s
  pub tables : AreTablesOf g (full_length w) w.level w.tables here.closed
  pub writes : Writes m w (open_piece here)

-- no entry of the input was pushed: the pieces before have their tables, and none is open
pub record HasNone {F : Type 0} (g : Ghosts F) (w : PieceParts F) (s : Pushed) : Type 0 where
  pub none : s.entries ≡ []
  pub start : w.at ≡ 0
  pub tables : AreTablesOf g (full_length w) w.level w.tables s.earlier

-- these were pushed, cut at these keys
pub record HasCut {F : Type 0} (g : Ghosts F) (m : Making) (w : PieceParts F) (keys : List Bytes)
    (s : Pushed) : Type 0 where
  pub closed : w.is_open ≡ false → HasNone g w s
  pub opened : w.is_open ≡ true → HasOpen g m w keys s

-- with one entry more
abbrev pub with_more : Pushed → Entry → Pushed
with_more s e = record { earlier = s.earlier; entries = s.entries ++ e ∷ [] }

-- the next input, of which no entry was pushed
abbrev pub next_input : ℕ → List Bytes → Pushed → Pushed
next_input n keys s = record { earlier = all_pieces n keys s; entries = [] }

-- how many bytes the maker took of it: the tables of all pieces but the last, and the closed blocks
-- of the last one's
abbrev pub taken_by : {F : Type 0} → PieceParts F → List Bytes → Pushed → ℕ
taken_by w keys s = whole_length (full_length w) s.earlier
    + open_length (full_length w) (pieces_from w.numbers keys s.entries)

-- how many bytes its tables lack then
abbrev pub left_of : {F : Type 0} → PieceParts F → List Bytes → Pushed → ℕ
left_of w keys s = whole_length (full_length w) (pieces_from w.numbers keys s.entries)
    - open_length (full_length w) (pieces_from w.numbers keys s.entries)

-- the entries of the last piece, whose table is open
abbrev pub open_entries : {F : Type 0} → PieceParts F → List Bytes → Pushed → List Entry
open_entries w keys s = last_piece (pieces_from w.numbers keys s.entries)

-- the limit that stops an entry: that of its piece's table, or, where it begins another piece, that
-- of the table that is closed before it
abbrev pub piece_fault : {F : Type 0} → PieceParts F → List Bytes → Pushed → Entry → Option PutFault
piece_fault w keys s e =
    if range_of (last_key s.entries) keys == range_of e.key keys
    then push_fault (full_length w) (open_entries w keys s) e
    else blocks_fault (blocks_of (full_length w) (open_entries w keys s))

-- the sealed tables with these, one after another
abbrev pub sealed_with : {F : Type 0} → Ghosts F → List (TableParts F) → Sealed → Sealed
sealed_with g [] sealed = sealed
sealed_with g (t ∷ ts) sealed = sealed_with g ts (with_table t.row.number (g.bytes t.file) sealed)

-- where a number is begun, it is the one of before, or this one
abbrev pub Begins : ℕ → Option ℕ → Option ℕ → Type 0
Begins number before now = (now ≡ None) ⊎ (now ≡ before) ⊎ (now ≡ Some number)
