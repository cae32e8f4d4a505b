-- Entries in order, cut into pieces at keys, each with the number of its table.
use Rattle.std.specs.Prelude.{ℕ, suc, ◌+◌, if◌then◌else◌, List, [], ◌∷◌, ◌++◌, length}
use Rattle.peb_base.specs.Keys.{Bytes, key_lt}
use Rattle.peb_base.specs.declared.entry.Entry.{Entry}
use Rattle.flsm_model.specs.Compaction.{before_key, from_key}
use Rattle.table_file.specs.Form.{table_bytes}
use Rattle.table_file.specs.Taking.{closed_length}

-- a piece: the number of its table, and its entries
pub record Piece : Type 0 where
  pub number : ℕ
  pub entries : List Entry

-- the piece alone, unless it has no entry
abbrev pub some_piece : ℕ → List Entry → List Piece
some_piece n [] = []
some_piece n (e ∷ es) = record { number = n; entries = e ∷ es } ∷ []

-- the entries between neighbouring keys, of each range that has any, numbered from a first number
-- on by the range, where those without entries count too
abbrev pub pieces_from : ℕ → List Bytes → List Entry → List Piece
pieces_from n [] es = some_piece n es
pieces_from n (k ∷ ks) es =
    some_piece n (before_key k es) ++ pieces_from (suc n) ks (from_key k es)

-- how many first keys aren't above this one: the place of its range
abbrev pub range_of : Bytes → List Bytes → ℕ
range_of key [] = 0
range_of key (k ∷ ks) = if key_lt key k then 0 else suc (range_of key ks)

-- the entries of the last piece
abbrev pub last_piece : List Piece → List Entry
last_piece [] = []
last_piece (p ∷ []) = p.entries
last_piece (p ∷ q ∷ ps) = last_piece (q ∷ ps)

-- the length of the pieces' tables together, where blocks are full at this length
abbrev pub whole_length : ℕ → List Piece → ℕ
whole_length full [] = 0
whole_length full (p ∷ ps) =
    length (table_bytes full p.number p.entries) + whole_length full ps

-- the same, but of the last table its closed blocks alone
abbrev pub open_length : ℕ → List Piece → ℕ
open_length full [] = 0
open_length full (p ∷ []) = closed_length full p.entries
open_length full (p ∷ q ∷ ps) =
    length (table_bytes full p.number p.entries) + open_length full (q ∷ ps)

-- with one entry more in the last piece
abbrev pub longer : List Piece → Entry → List Piece
longer [] e = []
longer (p ∷ []) e = record { number = p.number; entries = p.entries ++ e ∷ [] } ∷ []
longer (p ∷ q ∷ ps) e = p ∷ longer (q ∷ ps) e
