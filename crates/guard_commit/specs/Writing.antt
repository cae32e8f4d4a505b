-- How far a writer of pieces and its maker have come.
use Rattle.std.specs.Prelude.{◌≡◌, ◌⊎◌, ℕ, ◌+◌, ◌<◌, ◌≤◌, Bool, IsTrue, List, []}
use Rattle.disk_model.specs.Tables.{Sealed, capped}
use Rattle.disk_model.specs.declared.maker.Maker as makers
use Rattle.disk_model.specs.declared.table_handle.TableHandle.{Ghosts}
use Rattle.peb_base.specs.Keys.{Bytes}
use Rattle.peb_base.specs.declared.entry.Entry.{Entry}
use Rattle.table_file.specs.Pieces.{Piece}
use Rattle.table_file.specs.PieceWriting.{PieceParts, Making, making, Pushed, HasCut, taken_by, sealed_with}

-- what a maker tells: of the table that it writes, how many bytes it took, and what it sealed
pub record MakerTold : Type 0 where
  pub making : Making
  pub taken : ℕ
  pub sealed : Sealed

abbrev pub told_by : {M F : Type 0} → makers.Ghosts M F → Bool → M → MakerTold
told_by g tells m =
    record {
      making = making tells (g.begun m) (g.written m);
      taken = g.taken m;
      sealed = g.sealed m;
    }

-- a writer of pieces that cuts at these keys, and what its maker tells
pub record Work (F : Type 0) : Type 0 where
  pub told : MakerTold
  pub writer : PieceParts F
  pub keys : List Bytes

abbrev pub work : {F : Type 0} → MakerTold → PieceParts F → List Bytes → Work F
work told writer keys = record { told = told; writer = writer; keys = keys }

-- since the maker told that, these were pushed: it took their bytes and sealed their tables
pub record HasWritten {F : Type 0} (g : Ghosts F) (from : MakerTold) (w : Work F) (s : Pushed)
    : Type 0 where
  pub cut : HasCut g w.told.making w.writer w.keys s
  pub taken : w.told.taken ≡ capped (from.taken + taken_by w.writer w.keys s)
  pub sealed : IsTrue w.told.making.tells
      → w.told.sealed ≡ sealed_with g w.writer.tables from.sealed

-- these pieces were pushed, and nothing of a further table
abbrev pub only : List Piece → Pushed
only ps = record { earlier = ps; entries = [] }

-- behind these pieces, entries of a further table
abbrev pub behind : List Piece → List Entry → Pushed
behind ps es = record { earlier = ps; entries = es }

-- the number isn't one of so many from a first one on
abbrev pub IsOutside : ℕ → ℕ → ℕ → Type 0
IsOutside first count n = (n < first) ⊎ (first + count ≤ n)
